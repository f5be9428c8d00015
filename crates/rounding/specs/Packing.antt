-- How a double's pattern is taken apart and put together. 01: "Significands are lined up by the count of leading zero bits."
use Rattle.std.specs.Prelude.{ℕ, ◌+◌, ◌-◌, ◌*◌, ◌/◌, ◌%◌, ◌^◌, cond, ltb}
use Rattle.std.specs.Int.Count.{count_leading_zeros}

-- `rounded` packs whole multiples of 2 ^ -deep: deep enough for the product of two subnormals, on a grid of its own digits.
unfoldable pub deep : ℕ
deep = 2400

-- A magnitude's pattern b stands for significand b * 2 ^ exponent b / 2 ^ 1127, and the significand's leading digit is at bit 52.
-- A subnormal's digits are shifted there. Zero has no leading digit: its significand is 0.
abbrev pub lift : ℕ → ℕ
lift b = count_leading_zeros 64 b - 11

unfoldable pub significand : ℕ → ℕ
significand b = cond (ltb b (2 ^ 52)) (b * 2 ^ lift b) (b % 2 ^ 52 + 2 ^ 52)

unfoldable pub exponent : ℕ → ℕ
exponent b = cond (ltb b (2 ^ 52)) (53 - lift b) (b / 2 ^ 52 + 52)
