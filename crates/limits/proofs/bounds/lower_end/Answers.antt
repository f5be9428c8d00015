use Rattle.limits.proofs.bounds.lower_end.Goals as goal

pub returns : goal.returns
returns c = c.maximum.ensures
