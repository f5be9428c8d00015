-- The theorems: `sqrt_of` and `hypot_of` are nearest in the sense of nearness' specs/Nearness, in every format, and no other value is.
use mathlib.Core.Path.{◌≡◌, ap₂, subst⁻¹}
use mathlib.Core.Logic.{⊎_elim}
use Prim.Native.Nat.{ℕ, zero, suc, ◌+◌, ◌*◌, ◌^◌, ◌≤◌, ◌<◌}
use native.Mathlib.Nat.{eq-or-lt_of_le, le_trans, le_of_lt, lt_of_le_of_lt, mul-pos, mul-le-mul, le_of_mul-le-mul_right, mul-le-mul_right}
use native.Mathlib.Omega.{arith}
use mathlib.Core.Bool.{true, false}
use lib.Pow.{pow_pos}
use lib.Ieee.{Float, nan, inf, fin, Format, low}
use Rattle.number.specs.Units.{units_of}
use Rattle.nearness.specs.Nearness.{fraction, root_of, Nearest}
use Rattle.nearness.proofs.RoundNearest.{round_nearest, Same, nearest_same}
use Rattle.nearness.proofs.OneNearest.{only_root}
use Rattle.exact_roots.specs.Root.{isqrt, stick_root, root_nearest, sqrt_of, SqrtNearest, Rooted}
use Rattle.exact_roots.specs.Hypot.{hypot_of, HypotNearest, Spanned}
use Rattle.exact_roots.proofs.Roots.{isqrt_is, square_lt, stick_root_is}

-- ---- the sticky root compares with a whole number of half steps as the number does with its square
module _ (m k : ℕ) where
  at_most : stick_root m ≤ 2 * k → m ≤ k * k
  at_most h =
      let R = isqrt_is m in
      let e = stick_root_is m (isqrt m) R in
      ⊎_elim
      (λ (z : isqrt m ≡ k). omega (arith, R.0, ap₂ (λ (x y : ℕ). x * y) z z))
      (λ (z : isqrt m < k). le_trans (le_of_lt R.1) (mul-le-mul (omega arith) (omega arith)))
      (eq-or-lt_of_le (omega arith))

  at_most_back : m ≤ k * k → stick_root m ≤ 2 * k
  at_most_back h =
      let R = isqrt_is m in
      let e = stick_root_is m (isqrt m) R in
      let l : isqrt m < k + 1 = square_lt (isqrt m) (k + 1) (lt_of_le_of_lt (le_trans R.0 h) (omega arith)) in
      ⊎_elim (λ (z : isqrt m ≡ k). omega (arith, ap₂ (λ (x y : ℕ). x * y) z z)) (λ (z : isqrt m < k). omega arith) (eq-or-lt_of_le (omega arith))

  at_least : 2 * k ≤ stick_root m → k * k ≤ m
  at_least h =
      let R = isqrt_is m in
      let e = stick_root_is m (isqrt m) R in
      le_trans (mul-le-mul (omega arith) (omega arith)) R.0

  at_least_back : k * k ≤ m → 2 * k ≤ stick_root m
  at_least_back h =
      let R = isqrt_is m in
      let e = stick_root_is m (isqrt m) R in
      let l : k < isqrt m + 1 = square_lt k (isqrt m + 1) (lt_of_le_of_lt h R.1) in
      omega arith

same_size : (f : Format) (n : ℕ) → Same (fraction f (stick_root (4 * n)) (4 * 2 ^ low f)) (root_of n)
same_size f n = record {
  most = λ k h. at_most (4 * n) k (less y k l L h);
  most_back = λ k h. less_back y k l (at_most_back (4 * n) k h);
  least = λ k h. at_least (4 * n) k (more y k l L h);
  least_back = λ k h. more_back y k l (at_least_back (4 * n) k h);
}
  where
    y : ℕ
    y = stick_root (4 * n)

    l : ℕ
    l = 2 ^ low f

    L : 0 < 2 ^ low f
    L = pow_pos (low f)

    less : (y k l : ℕ) → 0 < l → 2 * (y * l) ≤ k * (4 * l) → y ≤ 2 * k
    less y k l L h = le_of_mul-le-mul_right {k = l} (omega arith) L

    less_back : (y k l : ℕ) → y ≤ 2 * k → 2 * (y * l) ≤ k * (4 * l)
    less_back y k l h = let g = mul-le-mul_right l h in omega arith

    more : (y k l : ℕ) → 0 < l → k * (4 * l) ≤ 2 * (y * l) → 2 * k ≤ y
    more y k l L h = le_of_mul-le-mul_right {k = l} (omega arith) L

    more_back : (y k l : ℕ) → 2 * k ≤ y → k * (4 * l) ≤ 2 * (y * l)
    more_back y k l h = let g = mul-le-mul_right l h in omega arith

-- ---- the theorems
root_nearest_lem : (f : Format) (n : ℕ) → Nearest f false (root_of n) (root_nearest f n)
unfolding root_nearest
root_nearest_lem f n =
    let y = stick_root (4 * n) in
    let c = 4 * 2 ^ low f in
    nearest_same f false (fraction f y c) (root_of n) (root_nearest f n) (same_size f n) (round_nearest f false y c (mul-pos (pow_pos 2) (pow_pos (low f))))

sqrt_nearest : (f : Format) (x : Float) → SqrtNearest f x (sqrt_of f x)
unfolding sqrt_of
sqrt_nearest f nan h = absurd h
sqrt_nearest f (inf s) h = absurd h
sqrt_nearest f (fin true m e) h = absurd h
sqrt_nearest f (fin false zero e) h = absurd h
sqrt_nearest f (fin false (suc m) e) h = root_nearest_lem f (units_of f (fin false (suc m) e) * 2 ^ low f)

hypot_nearest : (f : Format) (x y : Float) → HypotNearest f x y (hypot_of f x y)
unfolding hypot_of
hypot_nearest f nan y h k = absurd h
hypot_nearest f (inf s) y h k = absurd h
hypot_nearest f (fin s m e) nan h k = absurd k
hypot_nearest f (fin s m e) (inf t) h k = absurd k
hypot_nearest f (fin s m e) (fin t n d) h k = root_nearest_lem f (units_of f (fin s m e) * units_of f (fin s m e) + units_of f (fin t n d) * units_of f (fin t n d))

-- what the contracts say, from their equations
pub rooted : (f : Format) (x r : Float) → r ≡ sqrt_of f x → Rooted f x r
rooted f x r e = record { is = e; nearest = near; only = λ h. only_root f false (units_of f x * 2 ^ low f) r (near h) }
  where
    near : SqrtNearest f x r
    near = subst⁻¹ (SqrtNearest f x) e (sqrt_nearest f x)

pub spanned : (f : Format) (x y r : Float) → r ≡ hypot_of f x y → Spanned f x y r
spanned f x y r e =
    record { is = e; nearest = near; only = λ h k. only_root f false (units_of f x * units_of f x + units_of f y * units_of f y) r (near h k) }
  where
    near : HypotNearest f x y r
    near = subst⁻¹ (HypotNearest f x y) e (hypot_nearest f x y)
