use Rattle.pieces.specs.Pieces.{piece_at}
use Rattle.following.proofs.interval.piece_at.Goals as goal

pub returns : goal.returns
unfolding piece_at
returns c =
    rw (
      ← c.double_at.ensures,
      ← c.double_at-2.ensures,
      ← c.double_at-3.ensures,
      ← c.double_at-4.ensures,
      ← c.double_at-5.ensures,
    )
    c.piece_of.ensures
