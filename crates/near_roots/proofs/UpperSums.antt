-- The upper digits of the sum of two squares, the second one cut: the code of `upper_sum`.
use Rattle.std.proofs.Common.{◌≡◌, ℕ, ◌+◌, ◌*◌, ◌/◌, ◌%◌, ◌^◌, ◌<◌, ◌≤◌, sym, ap, ◌∙◌, subst, lt_of_le_of_lt, mul-le-mul_right, mod-lt, div-lt_iff_lt-mul, mul-le-mul, mul-pos, div-add-mod', le-div_iff_mul-le, div-le_self, div-mul-le_self, arith, pow_pos, pow-add}
use Rattle.exact_roots.proofs.Roots.{square_rises}

-- ---- the upper digits h of the square of 2 ^ 11 times m, from its upper word
module _ (m v h : ℕ) (E : v ≡ m * 2048 * (m * 2048) / 2 ^ 64) (H : h ≡ v / 4) where
  larger_in : (h * 2 ^ 48 ≤ m * 4 * (m * 4)) × (m * 4 * (m * 4) < (h + 1) * 2 ^ 48)
  larger_in = go (m * 4 * (m * 4)) (E ∙ ap (λ (x : ℕ). x / 2 ^ 64) (square m))
    where
      square : (m : ℕ) → m * 2048 * (m * 2048) ≡ m * 4 * (m * 4) * 262144
      square m = omega arith

      go : (q : ℕ) → v ≡ q * 262144 / 2 ^ 64 → (h * 2 ^ 48 ≤ q) × (q < (h + 1) * 2 ^ 48)
      go q e = (omega arith, omega arith)

-- and those of the square of y, which is 2 ^ 11 times n, cut to steps of p
module _ (n y v h p : ℕ) (P : 0 < p) (Y : y < 2 ^ 64) (E : v ≡ y * y / 2 ^ 64) (H : h ≡ v / 4) (C : (y * p ≤ n * 2048) × (n * 2048 < (y + 1) * p)) where
  word : (h * 2 ^ 66 ≤ y * y) × (y * y < (h + 1) * 2 ^ 66)
  word = go (y * y) E
    where
      go : (q : ℕ) → v ≡ q / 2 ^ 64 → (h * 2 ^ 66 ≤ q) × (q < (h + 1) * 2 ^ 66)
      go q e = (omega arith, omega arith)

  least : h * 2 ^ 48 * (p * p) ≤ n * 4 * (n * 4)
  least =
      let a : h * 2 ^ 66 * (p * p) ≤ y * y * (p * p) = mul-le-mul_right (p * p) word.0 in
      let b : y * p * (y * p) ≤ n * 2048 * (n * 2048) = mul-le-mul C.0 C.0 in
      omega arith

  most : n * 4 * (n * 4) < (h + 2) * 2 ^ 48 * (p * p)
  most =
      let a : (y + 1) * (y + 1) ≤ (h + 2) * 2 ^ 66 = omega (arith, word.1) in
      let b : (y + 1) * (y + 1) * (p * p) ≤ (h + 2) * 2 ^ 66 * (p * p) = mul-le-mul_right (p * p) a in
      let c = square_rises (n * 2048) ((y + 1) * p) C.1 in
      omega arith

both_in : (p q x y : ℕ) → 2 ^ 108 ≤ p → p < 2 ^ 110 → q < 2 ^ 110 → (x * 2 ^ 48 ≤ p) × (p < (x + 1) * 2 ^ 48) → (y * 2 ^ 48 ≤ q) × (q < (y + 2) * 2 ^ 48)
    → (2 ^ 60 ≤ x + y) × (x + y < 2 ^ 63) × ((x + y) * 2 ^ 48 ≤ p + q) × (p + q < (x + y + 3) * 2 ^ 48)
both_in p q x y a b c g h = (omega arith, omega arith, omega arith, omega arith)

-- ---- the code of `upper_sum`
module _ (m n d v x z y : ℕ) (M : 2 ^ 52 ≤ m) (L : m < 2 ^ 53) (N : n < 2 ^ 53)
    (A : v ≡ m * 2048 * (m * 2048) / 2 ^ 64) (X : x ≡ v / 4) (B : z ≡ n * 2048 / 2 ^ d * (n * 2048 / 2 ^ d) / 2 ^ 64) (Y : y ≡ z / 4) where
  abbrev cut : ℕ
  cut = n * 2048 / 2 ^ d

  cut_lt : cut < 2 ^ 64
  cut_lt = lt_of_le_of_lt (div-le_self (n * 2048) (2 ^ d)) (omega arith)

  cut_in : (cut * 2 ^ d ≤ n * 2048) × (n * 2048 < (cut + 1) * 2 ^ d)
  cut_in = (div-mul-le_self (n * 2048) (2 ^ d), go cut (n * 2048 % 2 ^ d) (2 ^ d) (div-add-mod' (n * 2048) (2 ^ d)) (mod-lt (n * 2048) (pow_pos d)))
    where
      go : (q r p : ℕ) → q * p + r ≡ n * 2048 → r < p → n * 2048 < (q + 1) * p
      go q r p e l = omega arith

  twice : 2 ^ d * 2 ^ d ≡ 2 ^ (d * 2)
  twice = let e : d + d ≡ d * 2 = omega arith in sym (pow-add 2 d d) ∙ ap (λ (i : ℕ). 2 ^ i) e

  second_in : (y * 2 ^ 48 ≤ n * 4 * (n * 4) / 2 ^ (d * 2)) × (n * 4 * (n * 4) / 2 ^ (d * 2) < (y + 2) * 2 ^ 48)
  second_in = subst (λ (i : ℕ). (y * 2 ^ 48 ≤ n * 4 * (n * 4) / i) × (n * 4 * (n * 4) / i < (y + 2) * 2 ^ 48)) twice (
    (le-div_iff_mul-le (mul-pos (pow_pos d) (pow_pos d))).1 (least n cut z y (2 ^ d) (pow_pos d) cut_lt B Y cut_in),
    (div-lt_iff_lt-mul (mul-pos (pow_pos d) (pow_pos d))).1 (most n cut z y (2 ^ d) (pow_pos d) cut_lt B Y cut_in),
  )

  pub code_sum : (2 ^ 60 ≤ x + y) × (x + y < 2 ^ 63)
      × ((x + y) * 2 ^ 48 ≤ m * 4 * (m * 4) + n * 4 * (n * 4) / 2 ^ (d * 2)) × (m * 4 * (m * 4) + n * 4 * (n * 4) / 2 ^ (d * 2) < (x + y + 3) * 2 ^ 48)
  code_sum =
      let a : 2 ^ 54 * 2 ^ 54 ≤ m * 4 * (m * 4) = let g : 2 ^ 54 ≤ m * 4 = omega arith in mul-le-mul g g in
      let b = square_rises (m * 4) (2 ^ 55) (omega arith) in
      let c = lt_of_le_of_lt (div-le_self (n * 4 * (n * 4)) (2 ^ (d * 2))) (square_rises (n * 4) (2 ^ 55) (omega arith)) in
      both_in (m * 4 * (m * 4)) (n * 4 * (n * 4) / 2 ^ (d * 2)) x y a b c (larger_in m v x A X) second_in
