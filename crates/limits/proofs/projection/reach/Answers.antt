use Rattle.limits.proofs.projection.reach.Goals as goal

pub returns : goal.returns
returns c = simp (← c.minimum.ensures)
