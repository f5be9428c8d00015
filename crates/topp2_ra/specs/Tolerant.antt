-- 01: "Tolerant comparison of x and y, neither NaN, tolerances abs and rel: equal if x = y, or if |x - y| is at most the maximum of abs and
-- rel × max(|x|, |y|), each operation rounded; else greater or less as they compare."
use Rattle.std.specs.Prelude.{◌||◌, cond, Float}
use Rattle.std.specs.Float.Ieee.{lt, le, eq}
use Rattle.number.specs.Leaves.{maximum, absolute}
use Rattle.number.specs.Doubles.{◌⊖◌, ◌⊗◌}
use Rattle.std.specs.declared.cmp.Ordering.{Ordering}
use Rattle.std.specs.declared.cmp.Ordering.TheVariants.{Less, Equal, Greater}

unfoldable pub approx_order : Float → Float → Float → Float → Ordering
approx_order x y abs rel =
    cond (eq x y || le (absolute (x ⊖ y)) (maximum abs (rel ⊗ maximum (absolute x) (absolute y))))
    Equal
    (cond (lt x y) Less Greater)
