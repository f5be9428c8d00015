use Rattle.following.proofs.times.ListedTimes.time.Goals as goal

pub returns : goal.returns
returns c = c.double_at.ensures
