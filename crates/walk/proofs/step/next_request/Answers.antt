use Rattle.std.proofs.Common.{refl}
use Rattle.walk.proofs.step.next_request.Goals as goal

pub returns : goal.returns
returns c = refl
