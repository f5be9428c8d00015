-- A whole number of times a double, rounded, is at most half of that double too much, as long as the number has fewer digits than the format keeps;
-- and what is no more than that, divided by the double and rounded, has that number for its whole part or less. Assumes nothing.
use Prim.Native.Nat.{ℕ, suc, ◌+◌, ◌-◌, ◌*◌, ◌/◌, ◌^◌, ◌≤◌, ◌<◌}
use mathlib.Core.Path.{◌≡◌, sym, ap, ◌∙◌, subst}
use mathlib.Core.Logic.{inl, ⊎_elim}
use mathlib.Core.Bool.{true, false, true≢false}
use native.Mathlib.Nat.{le_trans, le_of_eq, le_of_lt, le_of_suc-le-suc, lt_of_lt_of_le, eq-zero-or-pos, div-lt_iff_lt-mul, min-le_left}
use native.Mathlib.Nat.{mul-one, mul-le-mul_right, mul-pos, le_of_mul-le-mul_right}
use native.Mathlib.Omega.{arith}
use lib.Dec.{T}
use lib.IntN.{ℤ, pos}
use lib.Pow.{pow-add, pow_pos, pow_mono, shl_lt}
use lib.Ieee.{Float, nan, inf, fin, Format, prec, emax, low, up, down, round, mul, div, le, of_int, to_unsigned}
use lib.Ieee.Fits.{two, two-le_pos, reach, up_pos, down_pos}
use lib.Ieee.Exact.{HasValue, round_exact}
use lib.Ieee.Order.{drop, kept}
use lib.Ieee.Scale.{finite, round_same, grid, round_val, round_under}
use lib.Ieee.Positive.{den, den_pos}
use Rattle.number.proofs.Fractions.{plus_part, minus_part, AtMost, le→AtMost}
use Rattle.number.proofs.Order.{no_more}
use Rattle.number.proofs.Rounded.{rounds_mono, div_rounds}
use Rattle.rounding.proofs.Powers.{half_pow}
use Rattle.nearness.proofs.Kept.{close, full}

-- what is kept of n / den is at most half of m too much, where m is no less than den and n no more than 2 ^ (p - 1) of m
half_over : (p n den m : ℕ) → 0 < p → 0 < den → den ≤ m → n ≤ 2 ^ (p - 1) * m → 2 * (kept p n den * 2 ^ drop p n den) * den ≤ 2 * n + m
half_over p n den m P D h g =
    let k = drop p n den in
    let o = 2 ^ (p - 1) in
    let c : 2 * kept p n den * (den * 2 ^ k) ≤ 2 * n + den * 2 ^ k = (close n (den * 2 ^ k) (mul-pos D (pow_pos k))).below in
    let s : den * 2 ^ k ≤ m = ⊎_elim
    (λ (e : k ≡ 0). le_trans (le_of_eq (ap (λ (z : ℕ). den * 2 ^ z) e ∙ mul-one den)) h)
    (λ (K : 0 < k). le_of_mul-le-mul_right {k = o} (omega (arith, full p n den P D K, ap (λ (z : ℕ). z * den) (pow-add 2 (p - 1) k))) (pow_pos (p - 1)))
    (eq-zero-or-pos k) in
    omega (arith, c, s)

-- the product by what is i is one rounding of i times the double
by_whole : (f : Format) (x : Float) (i m : ℕ) (e : ℤ) → HasValue x false i 1 → mul f x (fin false m e) ≡ round f false (i * (m * up e)) (down e)
unfolding mul
by_whole f nan i m e v = absurd v
by_whole f (inf s) i m e v = absurd v
by_whole f (fin true a b) i m e v = absurd (true≢false v.0)
by_whole f (fin false a b) i m e v =
    round_same f false (a * up b * (m * up e)) (down b * down e) (i * (m * up e)) (down e) (mul-pos (down_pos b) (down_pos e)) (down_pos e)
    (omega (arith, ap (λ (z : ℕ). z * (m * up e * down e)) v.1))

-- a value that is g / l, as a fraction at most another
value_at_most : (x : Float) (g l p d : ℕ) → 0 < l → HasValue x false g l → g * d ≤ p * l → AtMost (plus_part x) (minus_part x) (den x) p 0 d
value_at_most nan g l p d L v h = absurd v
value_at_most (inf s) g l p d L v h = absurd v
value_at_most (fin true a b) g l p d L v h = absurd (true≢false v.0)
value_at_most (fin false a b) g l p d L v h =
    le_of_mul-le-mul_right {k = l} (omega (arith, ap (λ (z : ℕ). z * d) v.1, mul-le-mul_right (down b) h)) L

-- the whole part of what is at most i + 1/2
whole_under : (w i : ℕ) (x y : Float) → HasValue y false (2 * i + 1) 2 → T (le x y) → to_unsigned w x ≤ i
unfolding to_unsigned
whole_under w i nan y v h = omega arith
whole_under w i (inf true) y v h = omega arith
whole_under w i (inf false) y v h = absurd (subst (λ (z : Float). HasValue z false (2 * i + 1) 2) (no_more y h) v)
whole_under w i (fin true a b) y v h = omega arith
whole_under w i (fin false a b) nan v h = absurd v
whole_under w i (fin false a b) (inf s) v h = absurd v
whole_under w i (fin false a b) (fin true n d) v h = absurd (true≢false v.0)
whole_under w i (fin false a b) (fin false n d) v h =
    let c : a * up b * down d ≤ n * up d * down b = omega (arith, le→AtMost (fin false a b) (fin false n d) tt tt h) in
    let u : a * up b * 2 ≤ (2 * i + 1) * down b =
    le_of_mul-le-mul_right {k = down d} (omega (arith, mul-le-mul_right 2 c, ap (λ (z : ℕ). z * down b) v.1)) (down_pos d) in
    let l : a * up b / down b < suc i = (div-lt_iff_lt-mul (down_pos b)).1 (omega (arith, u, down_pos b)) in
    le_trans (min-le_left _ _) (le_of_suc-le-suc l)

module _ (f : Format) (i m : ℕ) (e : ℤ) (few : i < 2 ^ (prec f - 1)) (M : 0 < m) where
  under_all : 2 * i + 1 < 2 ^ prec f
  under_all = omega (arith, few, half_pow (prec f) (two-le_pos (prec f) (two f)))

  -- i and i + 1/2 are values of the format
  whole : HasValue (of_int f (pos i)) false i 1
  unfolding of_int
  whole =
      let small : i < 2 ^ prec f = omega (arith, under_all) in
      round_exact f false i 1 i (low f) (omega arith) small
      (lt_of_lt_of_le (shl_lt (prec f) (low f) small) (pow_mono {i = prec f + low f} {j = low f + suc (emax f)} (omega (arith, reach f)))) (sym (mul-one (i * 2 ^ low f)))

  halfway : HasValue (round f false (2 * i + 1) 2) false (2 * i + 1) 2
  halfway =
      let l : 0 < low f = omega (arith, reach f, two f) in
      round_exact f false (2 * i + 1) 2 (2 * i + 1) (low f - 1) (omega arith) under_all
      (lt_of_lt_of_le (shl_lt (prec f) (low f - 1) under_all) (pow_mono {i = prec f + (low f - 1)} {j = low f + suc (emax f)} (omega (arith, reach f))))
      (omega (arith, ap (λ (z : ℕ). (2 * i + 1) * z) (half_pow (low f) l)))

  pub product : mul f (of_int f (pos i)) (fin false m e) ≡ round f false (i * (m * up e)) (down e)
  product = by_whole f (of_int f (pos i)) i m e whole

  -- at most i + 1/2 of the double
  abbrev pub Near : Float → Type 0
  Near x = AtMost (plus_part x) (minus_part x) (den x) ((2 * i + 1) * (m * up e)) 0 (2 * down e)

  pub product_near : down e ≤ 2 ^ low f → T (finite (round f false (i * (m * up e)) (down e))) → Near (round f false (i * (m * up e)) (down e))
  product_near d r =
      let l = 2 ^ low f in
      let u = m * up e * l in
      let n = i * (m * up e) * l in
      let g = grid f (i * (m * up e)) (down e) in
      let one : 1 * l ≤ m * up e * l = mul-le-mul_right l (mul-pos M (up_pos e)) in
      let h : 2 * g * down e ≤ 2 * n + u =
      half_over (prec f) n (down e) u (two-le_pos (prec f) (two f)) (down_pos e) (omega (arith, one, d)) (omega (arith, mul-le-mul_right u (le_of_lt few))) in
      value_at_most (round f false (i * (m * up e)) (down e)) g l ((2 * i + 1) * (m * up e)) (2 * down e) (pow_pos (low f))
      (round_val f (i * (m * up e)) (down e) (round_under f (i * (m * up e)) (down e) r)) (omega (arith, h))

  pub whole_near : (w : ℕ) (x : Float) → T (finite x) → Near x → to_unsigned w (div f x (fin false m e)) ≤ i
  whole_near w x X h =
      let y = div f x (fin false m e) in
      let H = round f false (2 * i + 1) 2 in
      whole_under w i y H halfway
      (rounds_mono f y H (plus_part x * down e) (minus_part x * down e) (m * up e * den x) (2 * i + 1) 0 2 (mul-pos (mul-pos M (up_pos e)) (den_pos x)) (omega arith)
      (div_rounds f x m e X M) (inl (omega arith, ap (λ (n : ℕ). round f false n 2) (omega arith))) (omega (arith, h)))
