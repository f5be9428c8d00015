use Rattle.requests.proofs.from_patterns.tolerances_of.Goals as goal

pub returns : goal.returns
returns c = simp (← c.double_of-3.ensures, ← c.double_of-2.ensures, ← c.double_of.ensures)
