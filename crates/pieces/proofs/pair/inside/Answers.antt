use Rattle.pieces.specs.Pieces.{station_inside}
use Rattle.pieces.proofs.pair.inside.Goals as goal

pub returns : goal.returns
unfolding station_inside
returns c = rw c.inverse_2order.ensures
