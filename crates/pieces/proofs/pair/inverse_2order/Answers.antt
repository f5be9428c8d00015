use Rattle.pieces.specs.Pieces.{inverse2order}
use Rattle.pieces.proofs.pair.inverse_2order.Goals as goal

pub returns : goal.returns
unfolding inverse2order
returns c = rw c.fma.ensures.is
