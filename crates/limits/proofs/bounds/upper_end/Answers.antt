use Rattle.limits.proofs.bounds.upper_end.Goals as goal

pub returns : goal.returns
returns c = c.minimum.ensures
