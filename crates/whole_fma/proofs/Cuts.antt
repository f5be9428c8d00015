-- The laws of `cut` and of `stick` that a window needs, and what the code of `cut_word` and `cut_wide` computes. Assumes nothing.
use Rattle.std.proofs.Common.{◌≡◌, ℕ, zero, suc, ◌+◌, ◌-◌, ◌*◌, ◌/◌, ◌%◌, ◌^◌, ◌<◌, ◌≤◌, min, sym, ap, ◌∙◌, le_trans, le_of_eq, lt_of_le_of_lt, mul-le-mul_right, mod-lt, mod-eq_of_lt, mul_assoc, div-lt_iff_lt-mul, lt_of_mul-lt-mul_right, mul-le-mul_left, mul-lt-mul_of_pos_right, mul-pos, div-add-mod', div-mul-le_self, le_of_mul-le-mul_right, arith, pow_pos, pow_mono, pow-add}
use native.Mathlib.Nat.{mul-add-mod_self_right}
use lib.Arith.{digits_mod}
use Rattle.rounding.specs.Stick.{stick}
use Rattle.rounding.proofs.Sticks.{stick_is, stick_stick}
use Rattle.whole_fma.specs.TwoLimbs.{cut}

-- ---- a number added to a multiple of the divisor, and taken from one
pub stick_add : (x y c : ℕ) → 0 < c → stick (x * c + y) c ≡ 2 * x + stick y c
stick_add x y c C =
    let q = y / c in
    let r = y % c in
    let e : x * c + y ≡ (x + q) * c + r = omega (arith, div-add-mod' y c) in
    ap (λ (z : ℕ). stick z c) e ∙ stick_is (x + q) c r (mod-lt y C) ∙ omega arith

pub stick_sub : (x y c : ℕ) → 0 < c → y ≤ x * c → stick (x * c - y) c + stick y c ≡ 2 * x
stick_sub x y c C h = go (y / c) (y % c) (mod-lt y C) (div-add-mod' y c)
  where
    go : (q r : ℕ) → r < c → q * c + r ≡ y → stick (x * c - y) c + (2 * q + min 1 r) ≡ 2 * x
    go q zero R e =
        let l : q ≤ x = le_of_mul-le-mul_right {k = c} (omega arith) C in
        let d = x - q in
        let p : x ≡ q + d = omega arith in
        let pc : x * c ≡ (q + d) * c = ap (λ (z : ℕ). z * c) p in
        let s : x * c - y ≡ d * c + 0 = omega arith in
        ap (λ (z : ℕ). stick z c + (2 * q + 0)) s ∙ ap (λ (z : ℕ). z + (2 * q + 0)) (stick_is d c 0 C) ∙ omega arith
    go q (suc r) R e =
        let l : q < x = lt_of_mul-lt-mul_right c (omega arith) in
        let d = x - suc q in
        let p : x ≡ suc (q + d) = omega arith in
        let pc : x * c ≡ suc (q + d) * c = ap (λ (z : ℕ). z * c) p in
        let s : x * c - y ≡ d * c + (c - suc r) = omega arith in
        ap (λ (z : ℕ). stick z c + (2 * q + min 1 (suc r))) s ∙ ap (λ (z : ℕ). z + (2 * q + min 1 (suc r))) (stick_is d c (c - suc r) (omega arith)) ∙ omega arith

-- ---- a cut is no more than the number, and in fewer digits
stick_le : (y c : ℕ) → 0 < c → stick y (2 * c) ≤ y
stick_le y c C =
    let q = y / (2 * c) in
    let e = div-add-mod' y (2 * c) in
    let m : q * 1 ≤ q * c = mul-le-mul_left q C in
    omega arith

pub cut_le : (n sh : ℕ) → cut n sh ≤ n
cut_le n sh = stick_le n (2 ^ sh) (pow_pos sh)

stick_lt : (y c u : ℕ) → 0 < c → y < u * (2 * c) → stick y (2 * c) < 2 * u
stick_lt y c u C h = let a : y / (2 * c) < u = (div-lt_iff_lt-mul (mul-pos (pow_pos 1) C)).1 h in omega arith

pub cut_lt : (n sh u : ℕ) → n < u * (2 * 2 ^ sh) → cut n sh < 2 * u
cut_lt n sh u h = stick_lt n (2 ^ sh) u (pow_pos sh) h

pub cut_none : (n : ℕ) → n ≡ cut n 0
cut_none n = omega arith

-- ---- the digit above what was lost, of q * p + r
bit : (b p : ℕ) → b < 2 → 0 < p → min 1 (b * p + 0) ≡ b
bit zero p B P = omega arith
bit (suc zero) p B P = omega arith
bit (suc (suc b)) p B P = absurd (omega arith)

module _ (q r p : ℕ) (R : r < p) where
  halves : stick (q * p + r) (2 * p) ≡ 2 * (q / 2) + min 1 (q % 2 * p + r)
  halves =
      let s : q ≡ q / 2 * 2 + q % 2 = omega arith in
      let e : q * p + r ≡ q / 2 * (2 * p) + (q % 2 * p + r) = omega (arith, ap (λ (z : ℕ). z * p) s) in
      let b : q % 2 * p ≤ 1 * p = mul-le-mul_right p (omega arith) in
      ap (λ (z : ℕ). stick z (2 * p)) e ∙ stick_is (q / 2) (2 * p) (q % 2 * p + r) (omega arith)

  none_lost : r ≡ 0 → q ≡ stick (q * p + r) (2 * p)
  none_lost z = sym (halves ∙ ap (λ (x : ℕ). 2 * (q / 2) + min 1 (q % 2 * p + x)) z ∙ ap (λ (x : ℕ). 2 * (q / 2) + x) (bit (q % 2) p (omega arith) (omega arith)) ∙ omega arith)

  some_lost : (r ≡ 0 → ⊥) → q - q % 2 + 1 ≡ stick (q * p + r) (2 * p)
  some_lost z = sym (halves ∙ omega arith)

-- ---- the code of `cut_word`
module _ (w sh : ℕ) (W : w < 2 ^ 64) where
  split : w / 2 ^ sh * 2 ^ sh + w % 2 ^ sh ≡ w
  split = div-add-mod' w (2 ^ sh)

  fit : w / 2 ^ sh * 2 ^ sh % 2 ^ 64 ≡ w / 2 ^ sh * 2 ^ sh
  fit = mod-eq_of_lt (lt_of_le_of_lt (div-mul-le_self w (2 ^ sh)) W)

  pub word_far : 63 < sh → min 1 w ≡ cut w sh
  word_far h =
      let g : 2 ^ 63 ≤ 2 ^ sh = pow_mono {i = 63} {j = sh} (omega arith) in
      omega arith ∙ sym (stick_is 0 (2 * 2 ^ sh) w (omega arith)) ∙ ap (λ (z : ℕ). cut z sh) (omega arith)

  pub word_kept : w / 2 ^ sh * 2 ^ sh % 2 ^ 64 ≡ w → w / 2 ^ sh ≡ cut w sh
  word_kept e =
      let f = fit in
      let s = split in
      none_lost (w / 2 ^ sh) (w % 2 ^ sh) (2 ^ sh) (mod-lt w (pow_pos sh)) (omega arith) ∙ ap (λ (z : ℕ). cut z sh) s

  pub word_lost : (w / 2 ^ sh * 2 ^ sh % 2 ^ 64 ≡ w → ⊥) → w / 2 ^ sh - w / 2 ^ sh % 2 + 1 ≡ cut w sh
  word_lost e =
      let f = fit in
      let s = split in
      some_lost (w / 2 ^ sh) (w % 2 ^ sh) (2 ^ sh) (mod-lt w (pow_pos sh)) (λ z. e (omega arith)) ∙ ap (λ (z : ℕ). cut z sh) s

  pub word_fits : (w / 2 ^ sh * 2 ^ sh % 2 ^ 64 ≡ w → ⊥) → w / 2 ^ sh - w / 2 ^ sh % 2 + 1 < 2 ^ 64
  word_fits e = lt_of_le_of_lt (le_trans (le_of_eq (word_lost e)) (cut_le w sh)) W

-- ---- the code of `cut_wide`, where less than a limb is cut: p is 2 ^ sh, and u what is left of half a limb
module _ (hi lo p u N : ℕ) (P : 0 < p) (U : 2 * p * u ≡ N) (L : lo < N) where
  low_part : hi * 2 % N * u % N ≡ 2 * (hi % p * u)
  low_part =
      let s = div-add-mod' (hi * 2) N in
      let t = div-add-mod' hi p in
      let u0 : 0 < u = pos_of u (omega arith) in
      let a : hi * 2 * u ≡ hi * 2 / N * u * N + hi * 2 % N * u = omega (arith, ap (λ (z : ℕ). z * u) s) in
      let b : hi * 2 * u ≡ hi / p * N + 2 * (hi % p * u) = omega (arith, ap (λ (z : ℕ). z * u) t, ap (λ (z : ℕ). hi / p * z) U) in
      let m : hi % p * u < p * u = mul-lt-mul_of_pos_right (mod-lt hi P) u0 in
      sym (mul-add-mod_self_right (hi * 2 / N * u) N (hi * 2 % N * u)) ∙ ap (λ (z : ℕ). z % N) (sym a ∙ b) ∙ digits_mod (hi / p) (omega arith)
    where
      pos_of : (u : ℕ) → 0 < 2 * p * u → 0 < u
      pos_of zero h = absurd (omega arith)
      pos_of (suc u) h = omega arith

  near_is : hi / p * N + (hi * 2 % N * u % N + stick lo (2 * p)) ≡ stick (hi * N + lo) (2 * p)
  near_is =
      let l = low_part in
      let t = div-add-mod' hi p in
      let e : hi * u * (2 * p) + lo ≡ hi * N + lo = omega (arith, ap (λ (z : ℕ). hi * z) U) in
      omega (arith, ap (λ (z : ℕ). z * u) t, ap (λ (z : ℕ). hi / p * z) U) ∙ sym (stick_add (hi * u) lo (2 * p) (omega arith)) ∙ ap (λ (z : ℕ). stick z (2 * p)) e

  near_fits : hi * 2 % N * u % N + stick lo (2 * p) < N
  near_fits =
      let l = low_part in
      let a : stick lo (2 * p) < 2 * u = stick_lt lo p u P (omega arith) in
      let b : suc (hi % p) * u ≤ p * u = mul-le-mul_right u (mod-lt hi P) in
      omega arith

module _ (hi lo sh w : ℕ) (L : lo < 2 ^ 64) (S : sh < 64) (e : w ≡ cut lo sh) where
  limb : 2 * 2 ^ sh * 2 ^ (63 - sh) ≡ 2 ^ 64
  limb =
      let e : sh + (63 - sh) ≡ 63 = omega arith in
      mul_assoc 2 (2 ^ sh) (2 ^ (63 - sh)) ∙ ap (λ (z : ℕ). 2 * z) (sym (pow-add 2 sh (63 - sh)) ∙ ap (λ (z : ℕ). 2 ^ z) e)

  pub wide_near : hi / 2 ^ sh * 2 ^ 64 + (hi * 2 % 2 ^ 64 * 2 ^ (63 - sh) % 2 ^ 64 + w) ≡ cut (hi * 2 ^ 64 + lo) sh
  wide_near =
      ap (λ (z : ℕ). hi / 2 ^ sh * 2 ^ 64 + (hi * 2 % 2 ^ 64 * 2 ^ (63 - sh) % 2 ^ 64 + z)) e
      ∙ near_is hi lo (2 ^ sh) (2 ^ (63 - sh)) (2 ^ 64) (pow_pos sh) limb L

  pub wide_fits : hi * 2 % 2 ^ 64 * 2 ^ (63 - sh) % 2 ^ 64 + w < 2 ^ 64
  wide_fits =
      lt_of_le_of_lt (le_of_eq (ap (λ (z : ℕ). hi * 2 % 2 ^ 64 * 2 ^ (63 - sh) % 2 ^ 64 + z) e))
      (near_fits hi lo (2 ^ sh) (2 ^ (63 - sh)) (2 ^ 64) (pow_pos sh) limb L)

-- ---- and where a limb and more is cut: w is what the first cut leaves
module _ (hi lo w : ℕ) (L : lo < 2 ^ 64) where
  pub limb_kept : lo ≡ 0 → w ≡ hi → w ≡ cut (hi * 2 ^ 64 + lo) 64
  limb_kept z e = e ∙ none_lost hi lo (2 ^ 64) L z

  pub limb_lost : (lo ≡ 0 → ⊥) → w ≡ hi - hi % 2 + 1 → w ≡ cut (hi * 2 ^ 64 + lo) 64
  limb_lost z e = e ∙ some_lost hi lo (2 ^ 64) L z

  pub wide_far : (sh : ℕ) → 64 ≤ sh → w ≡ cut (hi * 2 ^ 64 + lo) 64 → cut w (sh - 64) ≡ cut (hi * 2 ^ 64 + lo) sh
  wide_far sh h e =
      let n = hi * 2 ^ 64 + lo in
      let q : 2 ^ 64 * 2 ^ (sh - 64) ≡ 2 ^ sh = sym (pow-add 2 64 (sh - 64)) ∙ ap (λ (z : ℕ). 2 ^ z) (omega arith) in
      let p : 2 * 2 ^ 64 * 2 ^ (sh - 64) ≡ 2 * 2 ^ sh = mul_assoc 2 (2 ^ 64) (2 ^ (sh - 64)) ∙ ap (λ (z : ℕ). 2 * z) q in
      ap (λ (z : ℕ). cut z (sh - 64)) e
      ∙ sym (stick_stick n (2 * 2 ^ 64) (2 ^ (sh - 64)) (mul-pos (pow_pos 1) (pow_pos 64)) (pow_pos (sh - 64)))
      ∙ ap (λ (z : ℕ). stick n z) p
