-- A fraction whose denominator is a power of two, rounded to the nearest whole number.
use mathlib.Core.Path.{◌≡◌, refl, sym, ap, ◌∙◌, subst}
use Prim.Native.Nat.{ℕ, ◌+◌, ◌-◌, ◌*◌, ◌/◌, ◌%◌, ◌^◌, ◌≤◌, ◌<◌, compare, Ordering}
use mathlib.Core.Logic.{⊎_elim}
use native.Mathlib.Nat.{eq-or-lt_of_le, lt_of_le_of_lt, lt_of_lt_of_le, div-mul-le_self, mod-eq_of_lt, mod-eq-sub-div-mul, div-eq_of_lt, mod-lt, add-zero, one-mul}
use native.Mathlib.Omega.{arith}
use lib.Pow.{pow_pos, pow_mono, pow-lt, shr_lt}
use lib.Ieee.{nearest}
use lib.Ieee.Nearest.{closest}
use Rattle.rounding.proofs.Compare.{Cmp, cmp, cmp_lt, cmp_eq, cmp_gt}
use Rattle.rounding.proofs.Powers.{half_pow}

-- below a half, above it, at it
module _ (w b h : ℕ) (e : b ≡ 2 * h) where
  pub near_lt : w % b < h → w / b ≡ closest w b
  near_lt l = sym (ap (nearest (w / b)) (cmp_lt (w % b * 2) b (omega arith)))

  near_gt : h < w % b → w / b + 1 ≡ closest w b
  near_gt l = omega arith ∙ sym (ap (nearest (w / b)) (cmp_gt (w % b * 2) b (omega arith)))

  near_eq : w % b ≡ h → w / b + w / b % 2 ≡ closest w b
  near_eq l = sym (ap (nearest (w / b)) (cmp_eq (w % b * 2) b (omega arith)))

-- the code's remainder, and its half
pub rest_is : (n w sh : ℕ) → w < n → w - w / 2 ^ sh * 2 ^ sh % n ≡ w % 2 ^ sh
rest_is n w sh h = ap (λ (x : ℕ). w - x) (mod-eq_of_lt (lt_of_le_of_lt (div-mul-le_self w (2 ^ sh)) h)) ∙ sym (mod-eq-sub-div-mul w (2 ^ sh))

one_is : (j k : ℕ) → j < k → 1 * 2 ^ j % 2 ^ k ≡ 2 ^ j
one_is j k h = ap (λ (x : ℕ). x % 2 ^ k) (one-mul (2 ^ j)) ∙ mod-eq_of_lt (pow-lt h)

-- a shift past the word
pub far : (w sh : ℕ) → w < 2 ^ 64 → 64 < sh → 0 ≡ closest w (2 ^ sh)
far w sh h l =
    let b : 2 ^ sh ≡ 2 * 2 ^ (sh - 1) = half_pow sh (omega arith) in
    let g : 2 ^ 64 ≤ 2 ^ (sh - 1) = pow_mono {i = 64} {j = sh - 1} (omega arith) in
    let u : w < 2 ^ sh = omega arith in
    sym (div-eq_of_lt u) ∙ near_lt w (2 ^ sh) (2 ^ (sh - 1)) b (subst (λ (x : ℕ). x < 2 ^ (sh - 1)) (sym (mod-eq_of_lt u)) (lt_of_lt_of_le h g))

-- a shift by the whole word
pub whole_up : (w : ℕ) → w < 2 ^ 64 → 2 ^ 63 < w → 1 ≡ closest w (2 ^ 64)
whole_up w h g = ap (λ (x : ℕ). x + 1) (sym (div-eq_of_lt h)) ∙ near_gt w (2 ^ 64) (2 ^ 63) refl (subst (λ (x : ℕ). 2 ^ 63 < x) (sym (mod-eq_of_lt h)) g)

pub whole_down : (w : ℕ) → w < 2 ^ 64 → w ≤ 2 ^ 63 → 0 ≡ closest w (2 ^ 64)
whole_down w h g = ⊎_elim
    (λ (e : w ≡ 2 ^ 63). ap (λ (x : ℕ). x + x % 2) (sym (div-eq_of_lt h)) ∙ near_eq w (2 ^ 64) (2 ^ 63) refl (mod-eq_of_lt h ∙ e))
    (λ (l : w < 2 ^ 63). sym (div-eq_of_lt h) ∙ near_lt w (2 ^ 64) (2 ^ 63) refl (subst (λ (x : ℕ). x < 2 ^ 63) (sym (mod-eq_of_lt h)) l))
    (eq-or-lt_of_le g)

pub quot_small : (w sh : ℕ) → w < 2 ^ 64 → 0 < sh → w / 2 ^ sh < 2 ^ 63
quot_small w sh h p = shr_lt 63 sh (lt_of_lt_of_le h (pow_mono {i = 64} {j = 63 + sh} (omega arith)))

-- ---- an odd quotient counts for one more than the rest: then the half goes up, and every rest above it
module _ (w b h : ℕ) (e : b ≡ 2 * h) where
  near_up : h < w % b + w / b % 2 → w / b + 1 ≡ closest w b
  near_up g = go (compare (w % b) h) (cmp (w % b) h)
    where
      go : (o : Ordering) → Cmp o (w % b) h → w / b + 1 ≡ closest w b
      go Ordering.lt l = absurd (omega arith)
      go Ordering.eq l = let v : w / b % 2 ≡ 1 = omega arith in ap (λ (x : ℕ). w / b + x) (sym v) ∙ near_eq w b h e l
      go Ordering.gt l = near_gt w b h e l

  near_stay : w % b + w / b % 2 ≤ h → w / b ≡ closest w b
  near_stay g = go (compare (w % b) h) (cmp (w % b) h)
    where
      go : (o : Ordering) → Cmp o (w % b) h → w / b ≡ closest w b
      go Ordering.lt l = near_lt w b h e l
      go Ordering.eq l = let v : w / b % 2 ≡ 0 = omega arith in sym (add-zero (w / b)) ∙ ap (λ (x : ℕ). w / b + x) (sym v) ∙ near_eq w b h e l
      go Ordering.gt l = absurd (omega arith)

-- ---- the code of `near`: its remainder and its half, taken in 64 bits
module _ (w sh : ℕ) (W : w < 2 ^ 64) (lo : 0 < sh) (hi : sh < 64) where
  rest : w - w / 2 ^ sh * 2 ^ sh % 2 ^ 64 ≡ w % 2 ^ sh
  rest = rest_is (2 ^ 64) w sh W

  half : 1 * 2 ^ (sh - 1) % 2 ^ 64 ≡ 2 ^ (sh - 1)
  half = one_is (sh - 1) 64 (omega arith)

  pub code_fits : w - w / 2 ^ sh * 2 ^ sh % 2 ^ 64 + w / 2 ^ sh % 2 < 2 ^ 64
  code_fits =
      let r : w % 2 ^ sh < 2 ^ sh = mod-lt w (pow_pos sh) in
      let m : 2 ^ sh ≤ 2 ^ 63 = pow_mono {i = sh} {j = 63} (omega arith) in
      rw rest (omega arith)

  pub code_up : 1 * 2 ^ (sh - 1) % 2 ^ 64 < w - w / 2 ^ sh * 2 ^ sh % 2 ^ 64 + w / 2 ^ sh % 2 → w / 2 ^ sh + 1 ≡ closest w (2 ^ sh)
  code_up = rw (rest, half) (near_up w (2 ^ sh) (2 ^ (sh - 1)) (half_pow sh lo))

  pub code_stay : w - w / 2 ^ sh * 2 ^ sh % 2 ^ 64 + w / 2 ^ sh % 2 ≤ 1 * 2 ^ (sh - 1) % 2 ^ 64 → w / 2 ^ sh ≡ closest w (2 ^ sh)
  code_stay = rw (rest, half) (near_stay w (2 ^ sh) (2 ^ (sh - 1)) (half_pow sh lo))
