use Rattle.pieces.specs.Pieces.{piece_of}
use Rattle.pieces.proofs.pair.piece_of.Goals as goal

pub returns : goal.returns
unfolding piece_of
returns c = rw c.sqrt.ensures.is
