use Rattle.walk_words.proofs.step.step_words.Goals as goal

pub returns : goal.returns
returns c = rw (c.step_bytes.ensures, c.station_of.ensures, c.walk_of.ensures)
