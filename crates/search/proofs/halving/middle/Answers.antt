use Rattle.std.proofs.Common.{refl}
use Rattle.search.proofs.halving.middle.Goals as goal

pub returns : goal.returns
returns c = refl
