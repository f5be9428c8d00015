use Rattle.std.proofs.Common.{refl}
use Rattle.starred.proofs.Starred.{starred_hold}
use Rattle.starred.proofs.count.Goals as goal

pub returns : goal.returns
returns c = (refl, starred_hold)
