use Rattle.walk_words.proofs.state.walk_of.Goals as goal

pub returns : goal.returns
returns c = simp (← c.tolerances_of.ensures, ← c.double_of.ensures, ← c.station_of.ensures)
