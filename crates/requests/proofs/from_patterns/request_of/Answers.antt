use Rattle.requests.proofs.from_patterns.request_of.Goals as goal

pub returns : goal.returns
returns c = simp (← c.double_of.ensures)
