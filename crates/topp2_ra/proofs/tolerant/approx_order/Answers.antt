use Rattle.topp2_ra.specs.Tolerant.{approx_order}
use Rattle.topp2_ra.proofs.tolerant.approx_order.Goals as goal

pub returns-then-x-y : goal.returns-then-x-y
unfolding approx_order
returns-then-x-y c =
    simp
    c.if-x-y.true

pub returns-then-absolute-maximum : goal.returns-then-absolute-maximum
unfolding approx_order
returns-then-absolute-maximum c =
    simp (
      c.if-absolute-maximum.true,
      ← c.maximum.ensures,
      ← c.absolute-3.ensures,
      ← c.maximum-larger.ensures,
      ← c.absolute-2.ensures,
      ← c.absolute.ensures,
      c.if-x-y.false,
    )

pub returns-then-x-y-2 : goal.returns-then-x-y-2
unfolding approx_order
returns-then-x-y-2 c =
    simp (
      c.if-x-y-2.true,
      c.if-absolute-maximum.false,
      ← c.maximum.ensures,
      ← c.absolute-3.ensures,
      ← c.maximum-larger.ensures,
      ← c.absolute-2.ensures,
      ← c.absolute.ensures,
      c.if-x-y.false,
    )

pub returns : goal.returns
unfolding approx_order
returns c =
    simp (
      c.if-x-y-2.false,
      c.if-absolute-maximum.false,
      ← c.maximum.ensures,
      ← c.absolute-3.ensures,
      ← c.maximum-larger.ensures,
      ← c.absolute-2.ensures,
      ← c.absolute.ensures,
      c.if-x-y.false,
    )
