-- The size of a value, counted in the format's smallest positive value: a unit is 2 ^ -low, 2 ^ -1074 for a double.
-- Every finite value that a format holds is a whole number of units.
use Rattle.std.specs.Prelude.{ℕ, ◌*◌, ◌/◌, ◌^◌, Float}
use Rattle.std.specs.Float.{nan, inf, fin, Format}
use Rattle.std.specs.Float.Ieee.{low, up, down}

-- how many units the size of a finite value is; NaN and the infinities have none
abbrev pub units_of : Format → Float → ℕ
units_of f nan = 0
units_of f (inf s) = 0
units_of f (fin s m e) = m * up e * 2 ^ low f / down e
