-- The number leaves of document 01, by cases on a value; `finite` is the kit's, lib.Ieee.Scale. Definitions only.
use Rattle.std.specs.Prelude.{ℕ, zero, suc, ◌+◌, ◌-◌, Bool, true, false, cond, not, ◌&&◌, ◌||◌, from_bits, is_nan, to_bits}
use lib.Ieee.{Float, nan, inf, fin, Format, low, minus, lt, eq, to_unsigned}

-- the next smaller value: both zeros go to -2 ^ -low, which is -2 ^ -1074 for a double; minus infinity and NaN stay.
-- Patterns sort as the sizes do, so that the pattern of a value above zero is one less, and that of one below zero is one more.
unfoldable pub next_down : Format → Float → Float
next_down f nan = nan
next_down f (inf true) = inf true
next_down f (inf false) = from_bits f (to_bits f (inf false) - 1)
next_down f (fin s zero e) = fin true 1 (minus 0 (low f))
next_down f (fin false (suc m) e) = from_bits f (to_bits f (fin false (suc m) e) - 1)
next_down f (fin true (suc m) e) = from_bits f (to_bits f (fin true (suc m) e) + 1)

-- the sign, a zero's too
unfoldable pub negative : Float → Bool
negative nan = false
negative (inf s) = s
negative (fin s m e) = s

-- x is less than y, or it is minus zero and y is plus zero: of two equal values only these differ in sign
unfoldable pub counts_below : Float → Float → Bool
counts_below x y = lt x y || (eq x y && (negative x && not (negative y)))

-- a NaN yields the other operand; minus zero counts below plus zero
unfoldable pub minimum : Float → Float → Float
minimum x y = cond (is_nan x) y (cond (is_nan y) x (cond (counts_below y x) y x))

unfoldable pub maximum : Float → Float → Float
maximum x y = cond (is_nan x) y (cond (is_nan y) x (cond (counts_below x y) y x))

-- the sign is dropped; NaN stays
unfoldable pub absolute : Float → Float
absolute nan = nan
absolute (inf s) = inf false
absolute (fin s m e) = fin false m e

-- Rust's `floor() as usize`: 0 below 1 and at NaN, 2 ^ 64 - 1 from 2 ^ 64 up
abbrev pub whole_part : Float → ℕ
whole_part x = to_unsigned 64 x
