use Rattle.following.proofs.times.EvenTimes.time.Goals as goal

pub returns : goal.returns
returns c = c.grid_time.ensures
