-- Which pattern is written for a NaN.
use Rattle.std.proofs.Common.{◌≡◌, true, refl, sym, ap, ◌∙◌}
use lib.Ieee.{Float, nan, binary64, is_nan, to_bits}
use Rattle.number.proofs.Order.{holds, is_nan_lem}

nan_bits : 0x7ff8_0000_0000_0000 ≡ to_bits binary64 nan
unfolding to_bits
nan_bits = refl

pub nan_written : (x : Float) → is_nan x ≡ true → 0x7ff8_0000_0000_0000 ≡ to_bits binary64 x
nan_written x e = nan_bits ∙ sym (ap (to_bits binary64) (is_nan_lem x (holds e)))
