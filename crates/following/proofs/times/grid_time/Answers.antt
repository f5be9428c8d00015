use Rattle.std.proofs.Common.{rules}
use Rattle.std.specs.Float.Ieee.{add}
use Rattle.following.specs.Places.{grid_time}
use Rattle.following.proofs.times.grid_time.Goals as goal

pub returns-then-i-lt4294967296 : goal.returns-then-i-lt4294967296
unfolding add grid_time
returns-then-i-lt4294967296 c = search rules

pub returns : goal.returns
unfolding grid_time
returns c = rw c.nearest_u64_to_f64.ensures
