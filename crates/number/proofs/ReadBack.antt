-- Which patterns are a NaN's. What is written reads as it was.
use Rattle.std.proofs.Common.{◌≡◌, ℕ, ◌%◌, ◌^◌, ◌<◌, true, sym, ap, ◌∙◌, lt-ltb}
use lib.Ieee.{Float, nan, binary64, fits, of_bits, to_bits}
use lib.Ieee.Bits.{nan_bits_is, nan_bits_above, of_bits-to_bits}
use Rattle.number.proofs.Order.{holds, is_nan_lem}

pub nan_pattern : (n : ℕ) → 0x7ff0_0000_0000_0000 < n % 2 ^ 63 → of_bits binary64 n ≡ nan
nan_pattern n h = is_nan_lem (of_bits binary64 n) (holds (sym (nan_bits_is binary64 n) ∙ nan_bits_above binary64 n ∙ lt-ltb 0x7ff0_0000_0000_0000 (n % 2 ^ 63) h))

pub reads_back : (x : Float) (n : ℕ) → fits binary64 x ≡ true → n ≡ to_bits binary64 x → of_bits binary64 n ≡ x
reads_back x n F e = ap (of_bits binary64) e ∙ of_bits-to_bits binary64 x (holds F)
