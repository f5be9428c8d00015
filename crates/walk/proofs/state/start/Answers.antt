use Rattle.std.proofs.Common.{refl}
use Rattle.walk.proofs.state.start.Goals as goal

pub returns : goal.returns
returns c = refl
