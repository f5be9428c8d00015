-- A whole number as a float: no NaN, and its pattern lies below an infinity's.
use Rattle.std.proofs.Common.{ℕ, ◌^◌, ◌<◌, ◌≤◌, true, false, not, T, pos, true≢false, arith, le→leb}
use lib.Ieee.{Float, nan, inf, fin, binary64, fits, is_nan, in_float, of_int, to_bits, round}
use lib.Ieee.Back.{round_whole}
use lib.Ieee.Exact.{HasValue}
use lib.Ieee.Fits.{round-fits}
use Rattle.number.proofs.Patterns.{pattern_of}

-- a whole number of at most 53 digits is a float, and its pattern lies below an infinity's
pub in_float_lem : (n : ℕ) → n ≤ 2 ^ 53 → T (in_float binary64 (pos n))
unfolding in_float
in_float_lem n h = le→leb n (2 ^ 53) h

pub whole_pattern : (n : ℕ) → n ≤ 2 ^ 53 → T (not (is_nan (of_int binary64 (pos n)))) × (to_bits binary64 (of_int binary64 (pos n)) < 0x7ff0_0000_0000_0000)
unfolding of_int
whole_pattern n h = go (round binary64 false n 1) (round-fits binary64 false n 1) (round_whole binary64 false n h)
  where
    go : (x : Float) → T (fits binary64 x) → HasValue x false n 1 → T (not (is_nan x)) × (to_bits binary64 x < 0x7ff0_0000_0000_0000)
    go nan F v = absurd v
    go (inf s) F v = absurd v
    go (fin true m e) F v = absurd (true≢false v.0)
    go (fin false m e) F v = let p = pattern_of binary64 false m e F in (unfold is_nan in tt, omega (arith, p.1, p.2))
