use Rattle.std.proofs.Common.{refl}
use Rattle.timing.specs.Times.{leg}
use Rattle.timing.proofs.times.leg.Goals as goal

pub returns : goal.returns
unfolding leg
returns c = refl
