use Rattle.std.proofs.Common.{ap, Float}
use Rattle.std.specs.Float.Ieee.{lt}
use Rattle.following.specs.Places.{is_before}
use Rattle.following.proofs.pass.is_before.Goals as goal

pub returns : goal.returns
unfolding is_before
returns c = ap (λ (y : Float). lt c.args.x y) c.double_at.ensures
