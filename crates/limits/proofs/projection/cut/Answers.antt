use Rattle.limits.specs.Projection.{cut_by}
use Rattle.limits.proofs.projection.cut.Goals as goal

pub returns-then-c : goal.returns-then-c
unfolding cut_by
returns-then-c c =
    simp (
      ← c.minimum.ensures,
      c.if-c.true,
    )

pub returns-then-c-2 : goal.returns-then-c-2
unfolding cut_by
returns-then-c-2 c =
    simp (
      ← c.maximum.ensures,
      c.if-c-2.true,
      c.if-c.false,
    )

pub returns : goal.returns
unfolding cut_by
returns c =
    simp (
      c.if-c-2.false,
      c.if-c.false,
    )
