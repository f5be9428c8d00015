use Rattle.std.proofs.Common.{refl}
use Rattle.gridding.specs.Ending.{entry_more}
use Rattle.gridding.proofs.grid.entry_more.Goals as goal

pub returns : goal.returns
unfolding entry_more
returns c = refl
