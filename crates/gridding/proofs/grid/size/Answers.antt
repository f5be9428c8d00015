use Rattle.gridding.specs.Grid.{grid_size}
use Rattle.gridding.proofs.grid.size.Goals as goal

pub returns : goal.returns
unfolding grid_size
returns c = rw (← c.last.ensures) c.whole_part.ensures
