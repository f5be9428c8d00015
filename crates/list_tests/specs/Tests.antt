-- What the tests of an entry, and of an entry with the next, ask.
use Rattle.std.specs.Prelude.{Bool, not, ◌&&◌, Float}
use Rattle.std.specs.Float.Ieee.{lt, eq}
use Rattle.number.specs.Doubles.{zero}

-- minus zero is not below zero
unfoldable pub not_below_zero : Float → Bool
not_below_zero x = not (lt x zero)

unfoldable pub not_both_zero : Float → Float → Bool
not_both_zero x y = not (eq x zero && eq y zero)
