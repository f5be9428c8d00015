-- What a pattern says of its value before it is taken apart.
use Rattle.std.specs.Prelude.{◌≡◌, ℕ, ◌%◌, ◌^◌, Bool, true, ◌&&◌, ◌==◌, nat_le, nat_lt, Float}
use Rattle.std.specs.Float.{nan, inf, fin}
use Rattle.rounding.specs.Packing.{significand, exponent}

-- the values that have no leading digit: NaN, infinities, zeros
abbrev pub is_special : Float → Bool
is_special nan = true
is_special (inf s) = true
is_special (fin s m e) = m == 0

-- a double's pattern b is its sign and its magnitude
abbrev pub sign_bit : ℕ → Bool
sign_bit b = nat_le (2 ^ 63) b

abbrev pub magnitude : ℕ → ℕ
magnitude b = b % 2 ^ 63

-- the exponent's field is neither the least nor the largest
abbrev pub is_normal : ℕ → Bool
is_normal b = nat_le (2 ^ 52) (magnitude b) && nat_lt (magnitude b) 0x7ff0_0000_0000_0000

-- the parts of a pattern without its sign
abbrev pub Unpacked : ℕ → ℕ → ℕ → Type 0
Unpacked b m k = (m ≡ significand (magnitude b)) × (k ≡ exponent (magnitude b))
