use Rattle.std.proofs.Common.{refl}
use Rattle.following.specs.Following.{more_inside}
use Rattle.following.proofs.pass.Counts.more_inside.Goals as goal

pub returns : goal.returns
unfolding more_inside
returns c = refl
