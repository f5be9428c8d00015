-- Where the halvings start. From 2 ^ -1021 up the half of the projected upper end is exact; so the middle of the projected ends, of which the lower is not below zero,
-- is at least that half and not above that end. Assumes nothing.
use mathlib.Core.Path.{◌≡◌, refl, sym, ap, ◌∙◌, subst}
use mathlib.Core.Bool.{true, false}
use Prim.Native.Nat.{ℕ, ◌+◌, ◌*◌, ◌^◌, ◌≤◌, ◌<◌}
use native.Mathlib.Nat.{le_refl, le_trans, le_of_eq, le_of_lt, zero-add}
use native.Mathlib.Omega.{arith}
use lib.IntN.{negsuc}
use lib.Dec.{T, lit≤}
use lib.Pow.{pow-add, pow_mono}
use lib.Ieee.{Float, nan, inf, fin, binary64, size, of_bits, mul, add, le, lt, fits}
use lib.Ieee.Digits.{size-lt}
use lib.Ieee.Fits.{add-fits, mul-fits}
use lib.Ieee.Scale.{finite}
use lib.Ieee.Positive.{positive, positive-finite, positive_of_value, between, above_of_le}
use Rattle.number.specs.Units.{units_of}
use Rattle.number.proofs.Order.{nought, number, finite_number, le_transitive}
use Rattle.number.proofs.Monotone.{add_keeps, mul_keeps, add_number, mul_number}
use Rattle.number.proofs.Patterns.{units_of_value}
use Rattle.passing.specs.Demand.{smallest}
use Rattle.passing.proofs.Digits.{cut, rnd, Short, many, rnd_le, rnd_self}
use Rattle.passing.proofs.Middle.{At, at_le, le_at, Held, units_at, units_pos, units_short, units_fine, add_at, half, Halved, half_of, mean}
use Rattle.passing.proofs.Gaps.{Gap}

smallest_is : smallest ≡ fin false 1 (negsuc 1020)
unfolding of_bits
smallest_is = refl

-- 2 ^ -1021 is 2 ^ 53 units
smallest_at : At binary64 smallest (2 ^ 53)
smallest_at = subst (λ (x : Float). At binary64 x (2 ^ 53)) (sym smallest_is) (refl, refl)

nought_at : At binary64 nought 0
nought_at = (refl, refl)

half_nought : mul binary64 half nought ≡ nought
unfolding mul
half_nought = refl

-- a finite value from a positive one up is positive
positive_from : (x y : Float) → T (positive x) → T (finite y) → T (le x y) → T (positive y)
positive_from x nan X Y h = absurd Y
positive_from x (inf s) X Y h = absurd Y
positive_from x (fin true m e) X Y h = absurd (above_of_le x (fin true m e) X h)
positive_from x (fin false m e) X Y h = above_of_le x (fin false m e) X h

module _ (low high : Float) (L : T (finite low)) (F : T (finite high)) (fit : T (fits binary64 high))
    (from_zero : T (le nought low)) (order : T (le low high)) (large : T (le smallest high)) where
  upper : Held binary64 high
  upper = record { fit = fit; above = positive_from smallest high (positive_of_value smallest (2 ^ 53) (2 ^ 1074) smallest_at (lit≤ tt)) F large }

  -- high in units, its half h, and k, which is h units
  abbrev b : ℕ
  b = units_of binary64 high

  H : Halved binary64 high
  H = half_of binary64 high upper

  abbrev h : ℕ
  h = H.units

  abbrev k : Float
  k = mul binary64 half high

  -- 2 ^ 53 units and more are an even number of units
  exact : h + h ≡ b
  exact =
      let n : 2 ^ 53 ≤ b = le_at binary64 smallest high (2 ^ 53) b smallest_at (units_at binary64 high upper) large in
      let e = many 53 1 b (lit≤ tt) (units_short binary64 high upper) n in
      omega (arith, e.1, H.is_half.up, H.is_half.down)

  k_held : Held binary64 k
  k_held = record { fit = mul-fits binary64 half high; above = positive_of_value k h (2 ^ 1074) H.at (omega (arith, exact, units_pos binary64 high upper)) }

  k_finite : T (finite k)
  k_finite = positive-finite k k_held.above

  k_short : Short 53 h
  k_short = subst (Short 53) (units_of_value binary64 k false h H.at) (units_short binary64 k k_held)

  -- ---- the middle is between half of high and high

  abbrev m : Float
  m = mean binary64 low high

  low_number : T (number (mul binary64 half low))
  low_number = mul_number binary64 half low tt L

  low_from_zero : T (le nought (mul binary64 half low))
  low_from_zero =
      subst (λ (x : Float). T (le x (mul binary64 half low))) half_nought
      (mul_keeps binary64 half nought low tt (unfold le in tt) (subst (λ (x : Float). T (number x)) (sym half_nought) tt) low_number from_zero)

  -- 0 + k ≤ m
  least : T (le (add binary64 nought k) m)
  least =
      add_keeps binary64 k nought (mul binary64 half low)
      (add_number binary64 nought k tt k_finite) (add_number binary64 (mul binary64 half low) k low_number k_finite) low_from_zero

  least_at : At binary64 (add binary64 nought k) h
  least_at =
      subst (At binary64 (add binary64 nought k)) (ap (rnd 53) (zero-add h) ∙ rnd_self 53 h (lit≤ tt) k_short)
      (add_at binary64 nought k 0 h b nought_at H.at (units_short binary64 high upper) (units_fine binary64 high upper) (omega (arith, exact)))

  -- m ≤ k + k
  pub middle_upto : T (le m high)
  middle_upto =
      let less : T (le (mul binary64 half low) k) = mul_keeps binary64 half low high tt (unfold le in tt) low_number (finite_number k k_finite) order in
      let sum : T (le m (add binary64 k k)) =
      add_keeps binary64 k (mul binary64 half low) k
      (add_number binary64 (mul binary64 half low) k low_number k_finite) (add_number binary64 k k (finite_number k k_finite) k_finite) less in
      let s = units_short binary64 high upper in
      let v = add_at binary64 k k h h b H.at H.at s (units_fine binary64 high upper) (omega (arith, exact)) in
      let upto : rnd 53 (h + h) ≤ b = rnd_le 53 (lit≤ tt) (h + h) b s (omega (arith, exact)) in
      le_transitive m (add binary64 k k) high sum (at_le binary64 (add binary64 k k) high (rnd 53 (h + h)) b v (units_at binary64 high upper) upto)

  lower : Held binary64 m
  lower =
      let some : 0 < h = omega (arith, exact, units_pos binary64 high upper) in
      let least-positive = positive_of_value (add binary64 nought k) h (2 ^ 1074) least_at some in
      record {
        fit = add-fits binary64 (mul binary64 half low) k;
        above = between (add binary64 nought k) m high least-positive upper.above least middle_upto;
      }

  half_upto : h ≤ units_of binary64 m
  half_upto = le_at binary64 (add binary64 nought k) m h (units_of binary64 m) least_at (units_at binary64 m lower) least

  -- the gap has at most 2 ^ 53 steps
  pub first_gap : T (lt m high) → Gap binary64 (units_of binary64 m) m high (2 ^ 53)
  first_gap l =
      let a = units_of binary64 m in
      record { lower = lower; upper = upper; order = l; from = le_refl a; upto = omega (arith, exact, half_upto); steps = omega (arith, exact, half_upto, whole a) }
    where
      whole : (n : ℕ) → n ≤ 2 ^ 53 * 2 ^ cut 53 n
      whole n = le_trans (le_of_lt (size-lt n)) (le_trans (pow_mono {i = size n} {j = 53 + cut 53 n} (omega arith)) (le_of_eq (pow-add 2 53 (cut 53 n))))
