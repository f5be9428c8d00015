-- How three patterns that are not special fill their windows. Assumes nothing.
use Rattle.std.proofs.Common.{◌≡◌, ℕ, ◌+◌, ◌-◌, ◌*◌, ◌/◌, ◌%◌, ◌^◌, ◌<◌, ◌≤◌, false, sym, ap, ◌∙◌, subst, ap₂, lt_of_le_of_lt, mul-le-mul, mul-pos, div-add-mod', arith, lit<, pow_pos, pow-add}
use native.Mathlib.Nat.{mul-mod_left}
use lib.Ieee.{Float, binary64, unlike, sum, of_bits}
use Rattle.operands.proofs.Operands.{digits, in_units}
use Rattle.limbs.specs.declared.wide.Wide.{Wide}
use Rattle.number.proofs.Patterns.{size_at}
use Rattle.rounding.specs.Packing.{deep, significand, exponent}
use Rattle.rounding.proofs.Scaled.{deep_is}
use Rattle.rounding.proofs.Unpack.{units_unpacked}
use Rattle.operands.specs.declared.patterns.Triple.{Triple}
use Rattle.whole_fma.specs.MultiplyAdd.{fma_of}
use Rattle.operands.specs.SignAndSize.{is_special, sign_bit, magnitude, Unpacked}
use Rattle.whole_fma.specs.TwoLimbs.{whole}
use Rattle.whole_fma.proofs.Sums.{sum_same, fma_value}
use Rattle.whole_fma.proofs.Windowed.{Windows}

-- ---- the product times 2 ^ 20, the addend times 2 ^ 73. E is 2 ^ 53, R 2 ^ 126, S 2 ^ 1200, N 2 ^ 64, c 2 ^ 1074 and D 2 ^ deep.
to_product : (A B m n P Q E R c D : ℕ) → A * E ≡ m * P → B * E ≡ n * Q → D ≡ E * E * (1024 * 1024 * R * (c * c)) → A * B * D ≡ m * 1024 * (n * 1024) * (P * Q * R) * (c * c)
to_product A B m n P Q E R c D h k e = ap (λ (z : ℕ). A * B * z) e ∙ omega (arith, ap₂ (λ (x y : ℕ). x * y * (1024 * 1024 * R * (c * c))) h k)

to_addend : (C l K E S N c D : ℕ) → C * E ≡ l * K → D ≡ E * (512 * N * S * c) → C * c * D ≡ l * 512 * N * (K * S) * (c * c)
to_addend C l K E S N c D h e = ap (λ (z : ℕ). C * c * z) e ∙ omega (arith, ap (λ (x : ℕ). x * (512 * N * S * c) * c) h)

module _ (x y z : ℕ) (X : x < 2 ^ 64) (Y : y < 2 ^ 64) (Z : z < 2 ^ 64)
    (S : (is_special (of_bits binary64 x) ≡ false) × (is_special (of_bits binary64 y) ≡ false) × (is_special (of_bits binary64 z) ≡ false)) where
  abbrev m : ℕ
  m = significand (magnitude x)

  abbrev n : ℕ
  n = significand (magnitude y)

  abbrev l : ℕ
  l = significand (magnitude z)

  abbrev i : ℕ
  i = exponent (magnitude x) + exponent (magnitude y) + 126

  abbrev j : ℕ
  j = exponent (magnitude z) + 1200

  pub in_windows : sum binary64 (unlike (sign_bit x) (sign_bit y)) (m * 1024 * (n * 1024) * 2 ^ i) (sign_bit z) (l * 512 * 2 ^ 64 * 2 ^ j) (2 ^ deep)
      ≡ fma_of binary64 (of_bits binary64 x) (of_bits binary64 y) (of_bits binary64 z)
  in_windows =
      let A = size_at binary64 (magnitude x) in
      let B = size_at binary64 (magnitude y) in
      let C = size_at binary64 (magnitude z) in
      let c = 2 ^ 1074 in
      let a = exponent (magnitude x) in
      let b = exponent (magnitude y) in
      let d = exponent (magnitude z) in
      let p : 2 ^ i ≡ 2 ^ a * 2 ^ b * 2 ^ 126 = pow-add 2 (a + b) 126 ∙ ap (λ (w : ℕ). w * 2 ^ 126) (pow-add 2 a b) in
      let q : 2 ^ j ≡ 2 ^ d * 2 ^ 1200 = pow-add 2 d 1200 in
      let far = ap (λ (w : ℕ). 2 ^ w) deep_is in
      sym
      (fma_value binary64 (of_bits binary64 x) (of_bits binary64 y) (of_bits binary64 z) (sign_bit x) (sign_bit y) (sign_bit z) A B C c
      (pow_pos 1074) (in_units x X S.0) (in_units y Y S.1) (in_units z Z S.2)
      ∙ sum_same binary64 (unlike (sign_bit x) (sign_bit y)) (sign_bit z) (A * B) (C * c) (c * c)
      (m * 1024 * (n * 1024) * 2 ^ i) (l * 512 * 2 ^ 64 * 2 ^ j) (2 ^ deep)
      (mul-pos (pow_pos 1074) (pow_pos 1074)) (pow_pos deep)
      (to_product A B m n (2 ^ a) (2 ^ b) (2 ^ 53) (2 ^ 126) c (2 ^ deep) (units_unpacked (magnitude x)) (units_unpacked (magnitude y)) far
      ∙ ap (λ (w : ℕ). m * 1024 * (n * 1024) * w * (c * c)) (sym p))
      (to_addend C l (2 ^ d) (2 ^ 53) (2 ^ 1200) (2 ^ 64) c (2 ^ deep) (units_unpacked (magnitude z)) far
      ∙ ap (λ (w : ℕ). l * 512 * 2 ^ 64 * w * (c * c)) (sym q)))

  windows : Windows (m * 1024 * (n * 1024)) (l * 512)
  windows =
      let M = digits x X S.0 in
      let N = digits y Y S.1 in
      let L = digits z Z S.2 in
      record {
        v_low = mul-le-mul (low m M.0) (low n N.0);
        v_high = lt_of_le_of_lt (mul-le-mul (high m M.1) (high n N.1)) (lit< tt);
        v_free = ap (λ (w : ℕ). w % 2 ^ 20) (free m n) ∙ mul-mod_left (m * n) (2 ^ 20);
        h_low = ge l L.0;
        h_high = lt l L.1;
      }
    where
      low : (m : ℕ) → 2 ^ 52 ≤ m → 2 ^ 62 ≤ m * 1024
      low m h = omega arith

      high : (m : ℕ) → m < 2 ^ 53 → m * 1024 ≤ 2 ^ 63 - 1
      high m h = omega arith

      free : (m n : ℕ) → m * 1024 * (n * 1024) ≡ m * n * 2 ^ 20
      free m n = omega arith

      ge : (l : ℕ) → 2 ^ 52 ≤ l → 2 ^ 61 ≤ l * 512
      ge l h = omega arith

      lt : (l : ℕ) → l < 2 ^ 53 → l * 512 < 2 ^ 62
      lt l h = omega arith

  -- ---- the code of `finite`: what `split` and `product` gave
  module _ (o : Triple) (xy : Wide)
      (parts : Unpacked x o.x.m o.x.k × Unpacked y o.y.m o.y.k × Unpacked z o.z.m o.z.k)
      (limbs : (xy.hi ≡ o.x.m * 1024 * (o.y.m * 1024) / 2 ^ 64) × (xy.lo ≡ o.x.m * 1024 * (o.y.m * 1024) % 2 ^ 64)) where
    product_is : m * 1024 * (n * 1024) ≡ whole xy
    product_is =
        sym
        (ap₂ (λ (a b : ℕ). a * 2 ^ 64 + b) limbs.0 limbs.1
        ∙ div-add-mod' (o.x.m * 1024 * (o.y.m * 1024)) (2 ^ 64)
        ∙ ap₂ (λ (a b : ℕ). a * 1024 * (b * 1024)) parts.0.0 parts.1.0)

    pub code_windows : Windows (whole xy) (o.z.m * 512)
    code_windows = subst (λ (a : ℕ). Windows (whole xy) (a * 512)) (sym parts.2.0) (subst (λ (a : ℕ). Windows a (l * 512)) product_is windows)

    pub code_sum : sum binary64 (unlike (sign_bit x) (sign_bit y)) (whole xy * 2 ^ (o.x.k + o.y.k + 126))
        (sign_bit z) (o.z.m * 512 * 2 ^ 64 * 2 ^ (o.z.k + 1200)) (2 ^ deep)
        ≡ fma_of binary64 (of_bits binary64 x) (of_bits binary64 y) (of_bits binary64 z)
    code_sum =
        let added : ℕ → ℕ → Float = λ product addend. sum binary64 (unlike (sign_bit x) (sign_bit y)) product (sign_bit z) addend (2 ^ deep) in
        ap₂ (λ (a b : ℕ). added (whole xy * 2 ^ (a + b + 126)) (o.z.m * 512 * 2 ^ 64 * 2 ^ (o.z.k + 1200))) parts.0.1 parts.1.1
        ∙ ap₂ (λ (a b : ℕ). added (whole xy * 2 ^ i) (a * 512 * 2 ^ 64 * 2 ^ (b + 1200))) parts.2.0 parts.2.1
        ∙ ap (λ (a : ℕ). added (a * 2 ^ i) (l * 512 * 2 ^ 64 * 2 ^ j)) (sym product_is)
        ∙ in_windows
