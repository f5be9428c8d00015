-- The whole part of a square root, and what is known of it where the number is cut.
use mathlib.Core.Path.{◌≡◌, refl, sym, ap, ap₂, ◌∙◌, subst}
use Prim.Native.Nat.{ℕ, zero, suc, ◌+◌, ◌-◌, ◌*◌, ◌/◌, ◌%◌, ◌^◌, ◌≤◌, ◌<◌, min}
use native.Mathlib.Nat.{lt_of_lt_of_le, lt_of_le_of_lt, lt_of_not-le, not-le_of_lt, lt_of_mul-lt-mul_right, le_of_mul-le-mul_right}
use native.Mathlib.Nat.{mul-pos, mul-le-mul, mul-le-mul_right, pow-succ', pow-le-pow_left, mod-lt, div-add-mod', div-div-eq-div-mul, add-zero}
use native.Mathlib.Omega.{arith}
use mathlib.Core.Bool.{Bool, true, false, not, cond}
use lib.Dec.{T, leb, leb→le, nleb→lt, lit≤}
use lib.Ieee.{size}
use lib.Ieee.Digits.{size-lt}
use Rattle.rounding.specs.Stick.{stick}
use Rattle.rounding.proofs.Sticks.{stick_half, halved}
use Rattle.exact_roots.specs.Root.{root_in, isqrt, stick_root}
use Rattle.exact_roots.specs.CutRoot.{stick_more}

-- r is the whole part of n's root
abbrev pub Root : ℕ → ℕ → Type 0
Root n r = (r * r ≤ n) × (n < (r + 1) * (r + 1))

root_in_is : (k n : ℕ) → n < 4 ^ k → Root n (root_in k n)
unfolding root_in
root_in_is zero n h = (omega arith, h)
root_in_is (suc k) n h = go (root_in k (n / 4)) (root_in_is k (n / 4) (below (4 ^ k) (subst (λ (x : ℕ). n < x) (pow-succ' 4 k) h)))
  where
    below : (p : ℕ) → n < 4 * p → n / 4 < p
    below p h = omega arith

    pick : (q : ℕ) → Root (n / 4) q → (b : Bool) → (T b → (2 * q + 1) * (2 * q + 1) ≤ n) → (T (not b) → n < (2 * q + 1) * (2 * q + 1)) → Root n (2 * q + cond b 1 0)
    pick q i true x y = let z = x tt in (z, omega arith)
    pick q i false x y = let z = y tt in (omega arith, omega arith)

    go : (q : ℕ) → Root (n / 4) q → Root n (2 * q + cond (leb ((2 * q + 1) * (2 * q + 1)) n) 1 0)
    go q i = pick q i (leb ((2 * q + 1) * (2 * q + 1)) n) (leb→le ((2 * q + 1) * (2 * q + 1)) n) (nleb→lt ((2 * q + 1) * (2 * q + 1)) n)

pub isqrt_is : (n : ℕ) → Root n (isqrt n)
unfolding isqrt
isqrt_is n = root_in_is (size n) n (lt_of_lt_of_le (size-lt n) (pow-le-pow_left (lit≤ tt) (size n)))

-- ---- there is one only
pub square_rises : (a b : ℕ) → a < b → a * a < b * b
square_rises a b h = let z : suc a * suc a ≤ b * b = mul-le-mul h h in omega arith

pub square_lt : (a b : ℕ) → a * a < b * b → a < b
square_lt a b h = lt_of_not-le (λ (g : b ≤ a). not-le_of_lt h (mul-le-mul g g))

root_unique : (n r s : ℕ) → Root n r → Root n s → r ≡ s
root_unique n r s a b =
    let x : r < s + 1 = square_lt r (s + 1) (lt_of_le_of_lt a.0 b.1) in
    let y : s < r + 1 = square_lt s (r + 1) (lt_of_le_of_lt b.0 a.1) in
    omega arith

pub stick_root_is : (n r : ℕ) → Root n r → stick_root n ≡ 2 * r + min 1 (n - r * r)
unfolding stick_root
stick_root_is n r a = ap (λ (x : ℕ). 2 * x + min 1 (n - x * x)) (root_unique n (isqrt n) r (isqrt_is n) a)

pub stick_more_is : (n t r : ℕ) → Root n r → stick_more n t ≡ 2 * r + min 1 (n - r * r + t)
unfolding stick_more
stick_more_is n t r a = ap (λ (x : ℕ). 2 * x + min 1 (n - x * x + t)) (root_unique n (isqrt n) r (isqrt_is n) a)

-- nothing cut
pub more_none : (n : ℕ) → stick_more n 0 ≡ stick_root n
unfolding stick_more stick_root
more_none n = ap (λ (x : ℕ). 2 * isqrt n + min 1 x) (add-zero (n - isqrt n * isqrt n))

-- ---- of what was cut off it only counts whether it is 0
zero_together : (a b : ℕ) → (a ≡ 0 → b ≡ 0) → (b ≡ 0 → a ≡ 0) → min 1 a ≡ min 1 b
zero_together zero b f g = ap (λ (x : ℕ). min 1 x) (sym (f refl))
zero_together (suc a) zero f g = ap (λ (x : ℕ). min 1 x) (g refl)
zero_together (suc a) (suc b) f g = omega arith

pub more_scaled : (n t u : ℕ) → 0 < u → stick_more n (t * u) ≡ stick_more n t
unfolding stick_more
more_scaled n t u U = go (n - isqrt n * isqrt n)
  where
    none : (a : ℕ) → a * u ≡ 0 → a ≡ 0
    none zero h = refl
    none (suc a) h = absurd (omega arith)

    go : (x : ℕ) → 2 * isqrt n + min 1 (x + t * u) ≡ 2 * isqrt n + min 1 (x + t)
    go x = ap (λ (y : ℕ). 2 * isqrt n + y)
        (zero_together (x + t * u) (x + t)
        (λ h. let z : t ≡ 0 = none t (omega arith) in omega arith)
        (λ h. let z : t * u ≡ 0 = ap (λ (y : ℕ). y * u) {x = t} {y = 0} (omega arith) ∙ omega arith in omega arith))

-- ---- a number cut to n steps of p * p, with t cut off: its root s, cut to steps of p, is n's
module _ (n p t s : ℕ) (P : 0 < p) (H : t < p * p) (R : Root (n * (p * p) + t) s) where
  parts : s / p * p + s % p ≡ s
  parts = div-add-mod' s p

  cut_root : Root n (s / p)
  cut_root =
      let r = s / p in
      let m : s % p < p = mod-lt s P in
      let e = parts in
      let lo : r * p * (r * p) ≤ s * s = mul-le-mul (omega arith) (omega arith) in
      let hi : (s + 1) * (s + 1) ≤ (r + 1) * p * ((r + 1) * p) = mul-le-mul (omega arith) (omega arith) in
      let a : r * r < n + 1 = lt_of_mul-lt-mul_right (p * p) (omega (arith, R.0)) in
      (omega arith, lt_of_mul-lt-mul_right (p * p) (omega (arith, R.1)))

  stick_more_lem : stick (2 * s + min 1 (n * (p * p) + t - s * s)) (2 * p) ≡ stick_more n t
  stick_more_lem =
      let r = s / p in
      let m = n * (p * p) + t in
      stick_half s (m - s * s) p P
      ∙ ap (λ (x : ℕ). 2 * r + x) (zero_together (s % p * 2 + min 1 (m - s * s)) (n - r * r + t) down up)
      ∙ sym (stick_more_is n t r cut_root)
    where
      down : s % p * 2 + min 1 (n * (p * p) + t - s * s) ≡ 0 → n - s / p * (s / p) + t ≡ 0
      down e =
          let r = s / p in
          let z = parts in
          let q : s ≡ r * p = omega arith in
          let g : n * (p * p) + t ≤ s * s = omega arith in
          let w = ap₂ (λ (x y : ℕ). x * y) q q in
          let k : r * r * (p * p) ≤ n * (p * p) = mul-le-mul_right (p * p) cut_root.0 in
          let h : n ≤ r * r = le_of_mul-le-mul_right {k = p * p} (omega arith) (mul-pos P P) in
          omega arith

      up : n - s / p * (s / p) + t ≡ 0 → s % p * 2 + min 1 (n * (p * p) + t - s * s) ≡ 0
      up e =
          let r = s / p in
          let z = parts in
          let h : n ≡ r * r = omega (arith, cut_root.0) in
          let m : n * (p * p) + t ≡ r * p * (r * p) = omega (arith, ap (λ (x : ℕ). x * (p * p)) h) in
          let q : s ≡ r * p = root_unique (n * (p * p) + t) s (r * p) R (omega arith, omega arith) in
          let g : s * s ≡ n * (p * p) + t = ap₂ (λ (x y : ℕ). x * y) q q ∙ sym m in
          omega arith

  stick_whole : (2 * s + min 1 (n * (p * p) + t - s * s)) / (2 * p) ≡ isqrt n
  stick_whole =
      let e = n * (p * p) + t - s * s in
      sym (div-div-eq-div-mul (2 * s + min 1 e) 2 p)
      ∙ ap (λ (x : ℕ). x / p) (halved s e)
      ∙ root_unique n (s / p) (isqrt n) cut_root (isqrt_is n)

module _ (n p t : ℕ) (P : 0 < p) (H : t < p * p) where
  pub cut_more : stick (stick_root (n * (p * p) + t)) (2 * p) ≡ stick_more n t
  unfolding stick_root
  cut_more = stick_more_lem n p t (isqrt (n * (p * p) + t)) P H (isqrt_is (n * (p * p) + t))

  pub cut_whole : stick_root (n * (p * p) + t) / (2 * p) ≡ isqrt n
  unfolding stick_root
  cut_whole = stick_whole n p t (isqrt (n * (p * p) + t)) P H (isqrt_is (n * (p * p) + t))
