-- The sum of two squares, the second one cut, in two words: the code of `sum_root`.
use mathlib.Core.Path.{◌≡◌, sym, ap, ap₂, ◌∙◌, subst}
use Prim.Native.Nat.{ℕ, ◌+◌, ◌-◌, ◌*◌, ◌/◌, ◌%◌, ◌^◌, ◌≤◌, ◌<◌}
use native.Mathlib.Nat.{lt_of_lt_of_le, lt_of_le_of_lt, lt_of_mul-lt-mul_right, mul-le-mul, mod-eq_of_lt, mod-lt, div-add-mod', div-le_self}
use native.Mathlib.Omega.{arith}
use lib.Dec.{lit≤}
use lib.Pow.{pow_pos, pow_mono, mod-mod-pow}
use Rattle.exact_roots.proofs.Roots.{square_rises}

-- what `root` is given: the number n * 2 ^ 48 + l, and z, what was cut off it
pub record Given (x y s n l z : ℕ) : Type 0 where
  pub least : 2 ^ 60 ≤ n
  pub most : n < 2 ^ 63
  pub low : l < 2 ^ 48
  pub value : n * 2 ^ 48 + l ≡ x * x + y * y / 2 ^ s
  pub rest : z ≡ y * y % 2 ^ s
  pub rest_lt : z < 2 ^ 62

-- a sum's two words, and its upper word's size
plus_is : (w a b ah al bh bl : ℕ) → ah * w + al ≡ a → bh * w + bl ≡ b → (ah + bh + (al + bl) / w) * w + (al + bl) % w ≡ a + b
plus_is w a b ah al bh bl e f = omega (arith, div-add-mod' (al + bl) w)

high_lt : (w m h r n : ℕ) → h * w + r ≡ n → n < m * w → h < m
high_lt w m h r n e l = lt_of_mul-lt-mul_right w (lt_of_le_of_lt (omega arith) l)

-- the words h and l of a number n, parted again at bit 48
module _ (n h l : ℕ) (E : h * 2 ^ 64 + l ≡ n) (G : 2 ^ 108 ≤ n) (H : n < 2 ^ 111) where
  upper : ℕ
  upper = h * 2 ^ 16 % 2 ^ 64 + l / 2 ^ 48

  upper_value : upper * 2 ^ 48 + l % 2 ^ 48 ≡ n
  unfolding upper
  upper_value = ap (λ (i : ℕ). (i + l / 2 ^ 48) * 2 ^ 48 + l % 2 ^ 48) (mod-eq_of_lt (omega (arith, high_lt (2 ^ 64) (2 ^ 47) h l n E H))) ∙ go h l ∙ E
    where
      go : (h l : ℕ) → (h * 2 ^ 16 + l / 2 ^ 48) * 2 ^ 48 + l % 2 ^ 48 ≡ h * 2 ^ 64 + l
      go h l = omega arith

  upper_in : (2 ^ 60 ≤ upper) × (upper < 2 ^ 63)
  upper_in = go upper (l % 2 ^ 48) upper_value (omega arith)
    where
      go : (a b : ℕ) → a * 2 ^ 48 + b ≡ n → b < 2 ^ 48 → (2 ^ 60 ≤ a) × (a < 2 ^ 63)
      go a b e B = (omega arith, omega arith)

-- yh and yl are what `product` gives, ch, cl and z what `cut` gives, xh and xl `product` again, h and l `plus`
module _ (x y s : ℕ) (X : 2 ^ 54 ≤ x) (Z : x < 2 ^ 55) (Y : y < 2 ^ 55) (S : s < 54) (yh yl ch cl z xh xl h l : ℕ)
    (P : (yh ≡ y * y / 2 ^ 64) × (yl ≡ y * y % 2 ^ 64))
    (C : (ch * 2 ^ 64 + cl ≡ (yh * 2 ^ 64 + yl) / 2 ^ s) × (z ≡ yl % 2 ^ s))
    (Q : (xh ≡ x * x / 2 ^ 64) × (xl ≡ x * x % 2 ^ 64))
    (T : (h ≡ (xh + ch + (xl + cl) / 2 ^ 64) % 2 ^ 64) × (l ≡ (xl + cl) % 2 ^ 64)) where
  abbrev all : ℕ
  all = x * x + y * y / 2 ^ s

  all_in : (2 ^ 108 ≤ all) × (all < 2 ^ 111)
  all_in =
      let a : 2 ^ 54 * 2 ^ 54 ≤ x * x = mul-le-mul X X in
      let b = square_rises x (2 ^ 55) Z in
      let c = square_rises y (2 ^ 55) Y in
      let d = div-le_self (y * y) (2 ^ s) in
      (omega arith, omega arith)

  words : (n a b : ℕ) → (a ≡ n / 2 ^ 64) × (b ≡ n % 2 ^ 64) → a * 2 ^ 64 + b ≡ n
  words n a b e = ap₂ (λ (i j : ℕ). i * 2 ^ 64 + j) e.0 e.1 ∙ div-add-mod' n (2 ^ 64)

  total : h * 2 ^ 64 + l ≡ all
  total =
      let e = plus_is (2 ^ 64) (x * x) (y * y / 2 ^ s) xh xl ch cl (words (x * x) xh xl Q) (C.0 ∙ ap (λ (n : ℕ). n / 2 ^ s) (words (y * y) yh yl P)) in
      let m : xh + ch + (xl + cl) / 2 ^ 64 < 2 ^ 64 = lt_of_lt_of_le (high_lt (2 ^ 64) (2 ^ 47) (xh + ch + (xl + cl) / 2 ^ 64) ((xl + cl) % 2 ^ 64) all e all_in.1) (lit≤ tt) in
      ap₂ (λ (i j : ℕ). i * 2 ^ 64 + j) (T.0 ∙ mod-eq_of_lt m) T.1 ∙ e

  lost : z ≡ y * y % 2 ^ s
  lost =
      let e : 64 - s + s ≡ 64 = omega arith in
      C.1 ∙ ap (λ (n : ℕ). n % 2 ^ s) (P.1 ∙ ap (λ (i : ℕ). y * y % 2 ^ i) (sym e)) ∙ mod-mod-pow (y * y) (64 - s) s

  pub given : Given x y s (h * 2 ^ 16 % 2 ^ 64 + l / 2 ^ 48) (l % 2 ^ 48) z
  unfolding upper
  given =
      let u = upper_in all h l total all_in.0 all_in.1 in
      record {
        least = u.0;
        most = u.1;
        low = omega arith;
        value = upper_value all h l total all_in.0 all_in.1;
        rest = lost;
        rest_lt = subst (λ (i : ℕ). i < 2 ^ 62) (sym lost) (lt_of_lt_of_le (mod-lt (y * y) (pow_pos s)) (pow_mono {i = s} {j = 62} (omega arith)));
      }
