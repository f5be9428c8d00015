-- Why `aligned` and `narrow` may cut what they cut, and what the code of `joined` and `narrow` computes. Assumes nothing.
use Rattle.std.proofs.Common.{◌≡◌, ℕ, suc, ◌+◌, ◌-◌, ◌*◌, ◌/◌, ◌%◌, ◌^◌, ◌<◌, ◌≤◌, Bool, true, false, cond, not, T, ltb, leb, ◌⊎◌, sym, refl, ap, ◌∙◌, subst, ap₂, inl, inr, ⊎_elim, le_trans, le_of_eq, lt_of_lt_of_le, le-add_right, lt_of_le_of_lt, add-zero, mul-le-mul_right, mod-eq_of_lt, mul_assoc, eq-zero-or-pos, add_comm, mul-le-mul_left, mul-lt-mul_of_pos_right, div-add-mod', arith, lit≤, ltb→lt, leb→le, nltb→le, pow_pos, pow_mono, pow-add, ltb-false, ltb-true, le-ltb, lt-ltb}
use native.Mathlib.Nat.{mul-mod_left, pow-succ'}
use mathlib.Core.Bool.{beq}
use lib.Dec.{nleb→lt}
use lib.Count.{count_leading_zeros, leading_top, leading_of_zero}
use lib.Ieee.{binary64, round, sum}
use Rattle.limbs.specs.declared.wide.Wide.{Wide}
use Rattle.rounding.specs.Packing.{deep}
use Rattle.whole_fma.specs.TwoLimbs.{whole, cut, spare}
use Rattle.whole_fma.proofs.Cuts.{cut_le, cut_lt, cut_none}
use Rattle.whole_fma.proofs.Borrows.{high_lt, high_in}
use Rattle.whole_fma.proofs.Sums.{Exact, exact_like, exact_less, exact_more, exact_even, sum_comm, sum_scaled, cut_alike, cut_operand}

-- ---- `aligned`

-- A product of two significands, v, and an addend's significand, h * 2 ^ 64, fill their windows: the leading digit is at bit 124 or 125, and the lowest 20 digits are zeros.
pub record Windows (v h : ℕ) : Type 0 where
  pub v_low : 2 ^ 124 ≤ v
  pub v_high : v < 2 ^ 126
  pub v_free : v % 2 ^ 20 ≡ 0
  pub h_low : 2 ^ 61 ≤ h
  pub h_high : h < 2 ^ 62

-- a cut that reaches no digit but these zeros loses nothing
free : (n q e sh : ℕ) → n ≡ q * 2 ^ e → sh < e → n % (2 * 2 ^ sh) ≡ 0
free n q e sh h l =
    let d = e - suc sh in
    let x : e ≡ d + suc sh = omega arith in
    let y : 2 ^ e ≡ 2 ^ d * (2 * 2 ^ sh) = ap (λ (z : ℕ). 2 ^ z) x ∙ pow-add 2 d (suc sh) ∙ ap (λ (z : ℕ). 2 ^ d * z) (pow-succ' 2 sh) in
    let p : q * 2 ^ e ≡ q * 2 ^ d * (2 * 2 ^ sh) = ap (λ (z : ℕ). q * z) y ∙ sym (mul_assoc q (2 ^ d) (2 * 2 ^ sh)) in
    ap (λ (z : ℕ). z % (2 * 2 ^ sh)) (h ∙ p) ∙ mul-mod_left (q * 2 ^ d) (2 * 2 ^ sh)

-- and where it reaches further the other number is far larger. u is 2 ^ 124, which `omega` does not count to.
far_below : (u p v y : ℕ) → 2 ^ 55 ≤ u → 2 ^ 20 ≤ p → y < 4 * u → u ≤ v → 2 ^ 53 * (2 * p) + y ≤ v * p
far_below u p v y U P Y h =
    let a : 2 ^ 55 * p ≤ u * p = mul-le-mul_right p U in
    let b : 2 ^ 20 * u ≤ p * u = mul-le-mul_right u P in
    let c : u * p ≤ v * p = mul-le-mul_right p h in
    omega arith

room : (v y q sh : ℕ) → y ≡ q * 2 ^ 20 → y < 2 ^ 126 → 2 ^ 124 ≤ v → (y % (2 * 2 ^ sh) ≡ 0) ⊎ (2 ^ 53 * (2 * 2 ^ sh) + y ≤ v * 2 ^ sh)
room v y q sh e h g = go (ltb sh 20) (ltb→lt sh 20) (nltb→le sh 20)
  where
    go : (t : Bool) → (T t → sh < 20) → (T (not t) → 20 ≤ sh) → (y % (2 * 2 ^ sh) ≡ 0) ⊎ (2 ^ 53 * (2 * 2 ^ sh) + y ≤ v * 2 ^ sh)
    go true a b = inl (free y q 20 sh e (a tt))
    go false a b = inr (far_below (2 ^ 124) (2 ^ sh) v y (lit≤ tt) (pow_mono {i = 20} {j = sh} (b tt)) h g)

module _ (s t : Bool) (v i h j : ℕ) (w : Windows v h) where
  abbrev n : ℕ
  n = h * 2 ^ 64

  v_even : v % 2 ≡ 0
  v_even = go v w.v_free
    where
      go : (v : ℕ) → v % 2 ^ 20 ≡ 0 → v % 2 ≡ 0
      go v e = omega arith

  v_whole : v ≡ v / 2 ^ 20 * 2 ^ 20
  v_whole = go v w.v_free
    where
      go : (v : ℕ) → v % 2 ^ 20 ≡ 0 → v ≡ v / 2 ^ 20 * 2 ^ 20
      go v e = omega arith

  n_even : n % 2 ≡ 0
  n_even = go h
    where
      go : (h : ℕ) → h * 2 ^ 64 % 2 ≡ 0
      go h = omega arith

  n_in : (2 ^ 124 ≤ n) × (n < 2 ^ 126)
  n_in = (le_trans (lit≤ tt) (mul-le-mul_right (2 ^ 64) w.h_low), mul-lt-mul_of_pos_right w.h_high (pow_pos 64))

  abbrev Alike : Type 0
  Alike =
      sum binary64 s (v * 2 ^ i) t (h * 2 ^ 64 * 2 ^ j) (2 ^ deep)
      ≡ sum binary64 s (cut v (j - i) * 2 ^ (i + (j - i))) t (cut (h * 2 ^ 64) (i - j) * 2 ^ (i + (j - i))) (2 ^ deep)

  -- the product's window lies higher
  product_high : j ≤ i → Alike
  product_high l =
      let z : 0 ≡ j - i = omega arith in
      cut_operand binary64 s t v n (i - j) j i deep v_even (omega arith) (room v n (h * 2 ^ 44) (i - j) (sym (mul_assoc h (2 ^ 44) (2 ^ 20))) n_in.1 w.v_low)
      ∙ ap₂ (λ (x k : ℕ). sum binary64 s (x * 2 ^ k) t (cut n (i - j) * 2 ^ k) (2 ^ deep)) (cut_none v ∙ ap (cut v) z) (omega arith)

  -- the addend's does
  addend_high : i < j → Alike
  addend_high l =
      let z : 0 ≡ i - j = omega arith in
      sum_comm binary64 s t (v * 2 ^ i) (n * 2 ^ j) (2 ^ deep)
      ∙ cut_operand binary64 t s n v (j - i) i j deep n_even (omega arith) (room n v (v / 2 ^ 20) (j - i) v_whole w.v_high n_in.0)
      ∙ sum_comm binary64 t s (n * 2 ^ j) (cut v (j - i) * 2 ^ j) (2 ^ deep)
      ∙ ap₂ (λ (x k : ℕ). sum binary64 s (cut v (j - i) * 2 ^ k) t (x * 2 ^ k) (2 ^ deep)) (cut_none n ∙ ap (cut n) z) (omega arith)

  aligned_alike : Alike
  aligned_alike = go (leb j i) (leb→le j i) (nleb→lt j i)
    where
      go : (b : Bool) → (T b → j ≤ i) → (T (not b) → i < j) → Alike
      go true a b = product_high (a tt)
      go false a b = addend_high (b tt)

-- the code of `aligned`: w is the number that is cut, and h * 2 ^ 64 has no low limb
module _ (v i h j w : ℕ) where
  pub addend_cut : j ≤ i → w ≡ cut (h * 2 ^ 64 + 0) (i - j) → (v ≡ cut v (j - i)) × (w ≡ cut (h * 2 ^ 64) (i - j)) × (i ≡ i + (j - i))
  addend_cut l e = let z : 0 ≡ j - i = omega arith in (cut_none v ∙ ap (cut v) z, e ∙ ap (λ (x : ℕ). cut x (i - j)) (add-zero (h * 2 ^ 64)), omega arith)

  pub product_cut : i < j → w ≡ cut v (j - i) → (w ≡ cut v (j - i)) × (h * 2 ^ 64 + 0 ≡ cut (h * 2 ^ 64) (i - j)) × (j ≡ i + (j - i))
  product_cut l e = let z : 0 ≡ i - j = omega arith in (e, add-zero (h * 2 ^ 64) ∙ cut_none (h * 2 ^ 64) ∙ ap (cut (h * 2 ^ 64)) z, omega arith)

-- ---- the code of `joined`: n is what `plus` or `minus` gave
module _ (s t : Bool) (a b n : ℕ) where
  pub joined_like : beq s t ≡ true → n ≡ a + b → Exact s t a b s n
  joined_like e h = let x = exact_like s t a b e in (x.0, h ∙ x.1)

  pub joined_less : beq s t ≡ false → ltb a b ≡ true → n + a ≡ b → Exact s t a b (not s) n
  joined_less e l h =
      let m = ltb-true a b l in
      let x = exact_less s t a b e m in
      (other s t e ∙ x.0, omega arith ∙ x.1)
    where
      other : (s t : Bool) → beq s t ≡ false → not s ≡ t
      other true true e = sym e
      other true false e = refl
      other false true e = refl
      other false false e = e

  pub joined_more : beq s t ≡ false → 0 < n → n + b ≡ a → Exact s t a b s n
  joined_more e l h = let x = exact_more s t a b e (omega arith) in (x.0, omega arith ∙ x.1)

  pub joined_none : beq s t ≡ false → n ≡ 0 → n + b ≡ a → Exact s t a b false n
  joined_none e z h = let x = exact_even s t a b e (omega arith) in (x.0, z ∙ x.1)

-- a sum that stays in 128 bits
pub plus_whole : (ah al bh bl hi lo : ℕ) → ah < 2 ^ 63 → bh < 2 ^ 63 → al < 2 ^ 64 → bl < 2 ^ 64 → hi ≡ (ah + bh + (al + bl) / 2 ^ 64) % 2 ^ 64 → lo ≡ (al + bl) % 2 ^ 64
    → hi * 2 ^ 64 + lo ≡ ah * 2 ^ 64 + al + (bh * 2 ^ 64 + bl)
plus_whole ah al bh bl hi lo A B C D h l = limbs (2 ^ 64) ((al + bl) / 2 ^ 64) (div-add-mod' (al + bl) (2 ^ 64)) (h ∙ mod-eq_of_lt (omega arith)) l
  where
    limbs : (N q : ℕ) → q * N + (al + bl) % N ≡ al + bl → hi ≡ ah + bh + q → lo ≡ (al + bl) % N → hi * N + lo ≡ ah * N + al + (bh * N + bl)
    limbs N q d h l = omega (arith, ap (λ (z : ℕ). z * N) h)

-- a difference by its limbs: N is 2 ^ 64
module _ (h l N : ℕ) where
  pub none_left : h ≡ 0 → l ≡ 0 → h * N + l ≡ 0
  none_left x y = ap₂ (λ (i j : ℕ). i * N + j) x y ∙ omega arith

  pub some_low : (l ≡ 0 → ⊥) → 0 < h * N + l
  some_low x = omega arith

  pub some_high : 0 < N → (h ≡ 0 → ⊥) → 0 < h * N + l
  some_high P x = let m : 1 * N ≤ h * N = mul-le-mul_right N (omega arith) in omega arith

-- ---- the code of `narrow`

-- the leading digit of one limb
top_digit : (hi : ℕ) → hi < 2 ^ 64 → (hi < 2 ^ (64 - count_leading_zeros 64 hi)) × (0 < hi → 2 ^ (64 - count_leading_zeros 64 hi) ≤ 2 * hi)
top_digit hi H = ⊎_elim
    (λ (e : hi ≡ 0). (lt_of_le_of_lt (le_of_eq e) (pow_pos (64 - count_leading_zeros 64 hi)), λ g. absurd (omega arith)))
    (λ (g : 0 < hi).
    let t = leading_top 64 hi g H in
    let j = t.0 in
    let e : 64 - count_leading_zeros 64 hi ≡ suc j = omega (arith, t.1) in
    let lo = t.2 in
    subst (λ (z : ℕ). (hi < 2 ^ z) × (0 < hi → 2 ^ z ≤ 2 * hi)) (sym e) (t.3, λ _. omega (arith, pow-succ' 2 j)))
    (eq-zero-or-pos hi)

module _ (hi lo : ℕ) (H : hi < 2 ^ 64) (L : lo < 2 ^ 64) where
  abbrev m : ℕ
  m = hi * 2 ^ 64 + lo

  spare_fits : cut m (spare hi) < 2 ^ 64
  spare_fits = cut_lt m (spare hi) (2 ^ 63) (go (ltb hi (2 ^ 54)))
    where
      under : (p : ℕ) → hi < p → m < 2 ^ 63 * (2 * p)
      under p h = lt_of_lt_of_le (high_in hi lo p (2 ^ 64) h L) (le_of_eq (same p))
        where
          same : (p : ℕ) → p * 2 ^ 64 ≡ 2 ^ 63 * (2 * p)
          same p = omega arith

      go : (b : Bool) → m < 2 ^ 63 * (2 * 2 ^ cond b (64 - count_leading_zeros 64 hi) 64)
      go true = under (2 ^ (64 - count_leading_zeros 64 hi)) (top_digit hi H).0
      go false = under (2 ^ 64) H

  spare_alike : (s : Bool) (k : ℕ) → round binary64 s (m * 2 ^ k) (2 ^ deep) ≡ round binary64 s (cut m (spare hi) * 2 ^ (k + spare hi)) (2 ^ deep)
  spare_alike s k = go (ltb hi (2 ^ 54)) (ltb-false hi (2 ^ 54))
    where
      -- N is 2 ^ 64
      lower : (p N : ℕ) → 2 ^ 55 ≤ N → p ≤ 2 * hi → 2 ^ 53 * (2 * p) ≤ hi * N + lo
      lower p N h g = let a : hi * 2 ^ 55 ≤ hi * N = mul-le-mul_left hi h in omega arith

      go : (b : Bool) → (b ≡ false → 2 ^ 54 ≤ hi) → round binary64 s (m * 2 ^ k) (2 ^ deep)
          ≡ round binary64 s (cut m (cond b (64 - count_leading_zeros 64 hi) 64) * 2 ^ (k + cond b (64 - count_leading_zeros 64 hi) 64)) (2 ^ deep)
      go true h = ⊎_elim
          (λ (e : hi ≡ 0).
          let z : 64 - count_leading_zeros 64 hi ≡ 0 = ap (λ (x : ℕ). 64 - count_leading_zeros 64 x) e ∙ ap (λ (x : ℕ). 64 - x) (leading_of_zero 64) in
          ap₂ (λ (x y : ℕ). round binary64 s (x * 2 ^ y) (2 ^ deep)) (cut_none m ∙ ap (cut m) (sym z)) (omega arith))
          (λ (g : 0 < hi).
          let d = 64 - count_leading_zeros 64 hi in
          cut_alike binary64 s m k d (k + d) deep (add_comm k d) (lower (2 ^ d) (2 ^ 64) (lit≤ tt) ((top_digit hi H).1 g)))
          (eq-zero-or-pos hi)
      go false h = cut_alike binary64 s m k 64 (k + 64) deep (add_comm k 64) (le_trans (mul-le-mul_right (2 ^ 64) (h refl)) (le-add_right (hi * 2 ^ 64) lo))

  -- what the two arms of the code find
  pub spare_most : 2 ^ 54 ≤ hi → spare hi ≡ 64
  spare_most h = rw (le-ltb hi (2 ^ 54) h)

  pub spare_few : hi < 2 ^ 54 → spare hi ≡ 64 - count_leading_zeros 64 hi
  spare_few h = rw (lt-ltb hi (2 ^ 54) h)

  pub narrowed : (wh wl : ℕ) → wh * 2 ^ 64 + wl ≡ cut m (spare hi) → wl ≡ cut m (spare hi)
  narrowed wh wl e = low wh wl (cut m (spare hi)) e spare_fits
    where
      low : (wh wl x : ℕ) → wh * 2 ^ 64 + wl ≡ x → x < 2 ^ 64 → wl ≡ x
      low wh wl x e h = omega arith

-- ---- one after another: `rounded` gets what `aligned`, `joined` and `narrow` made of the two numbers in their windows
module _ (s t : Bool) (v i h j : ℕ) (w : Windows v h) (a b : Wide) (k : ℕ)
    (cuts : (whole a ≡ cut v (j - i)) × (whole b ≡ cut (h * 2 ^ 64) (i - j)) × (k ≡ i + (j - i))) where
  pub below_sign : (a.hi < 2 ^ 63) × (b.hi < 2 ^ 63)
  below_sign = (
    lt_of_lt_of_le (high_lt a.hi a.lo (2 ^ 62) (2 ^ 64) (lt_of_le_of_lt (le_trans (le_of_eq cuts.0) (cut_le v (j - i))) w.v_high)) (lit≤ tt),
    lt_of_lt_of_le (high_lt b.hi b.lo (2 ^ 62) (2 ^ 64) (lt_of_le_of_lt (le_trans (le_of_eq cuts.1) (cut_le (h * 2 ^ 64) (i - j))) (n_in s t v i h j w).1)) (lit≤ tt),
  )

  pub steps_alike : (neg : Bool) (n : Wide) (m e : ℕ) → (n.hi < 2 ^ 64) × (n.lo < 2 ^ 64) → Exact s t (whole a) (whole b) neg (whole n)
      → (m ≡ cut (whole n) (spare n.hi)) × (e ≡ k + spare n.hi)
      → round binary64 neg (m * 2 ^ e) (2 ^ deep) ≡ sum binary64 s (v * 2 ^ i) t (h * 2 ^ 64 * 2 ^ j) (2 ^ deep)
  steps_alike neg n m e N exact narrow =
      ap₂ (λ (x y : ℕ). round binary64 neg (x * 2 ^ y) (2 ^ deep)) narrow.0 narrow.1
      ∙ sym (spare_alike n.hi n.lo N.0 N.1 neg k)
      ∙ ap₂ (λ (x : Bool) (y : ℕ). round binary64 x (y * 2 ^ k) (2 ^ deep)) exact.0 exact.1
      ∙ sum_scaled binary64 s t (whole a) (whole b) k deep
      ∙ ap₂ (λ (x y : ℕ). sum binary64 s (x * 2 ^ k) t (y * 2 ^ k) (2 ^ deep)) cuts.0 cuts.1
      ∙ ap (λ (x : ℕ). sum binary64 s (cut v (j - i) * 2 ^ x) t (cut (h * 2 ^ 64) (i - j) * 2 ^ x) (2 ^ deep)) cuts.2
      ∙ sym (aligned_alike s t v i h j w)
