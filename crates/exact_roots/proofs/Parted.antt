-- A pattern's parts, as `unpacked` hands them over: what the roots use of them.
use mathlib.Core.Path.{◌≡◌, sym, ap, ap₂, ◌∙◌, subst}
use mathlib.Core.Logic.{⊎_elim}
use Prim.Native.Nat.{ℕ, suc, ◌-◌, ◌*◌, ◌^◌, ◌≤◌, ◌<◌}
use native.Mathlib.Nat.{eq-or-lt_of_le, eq-zero-or-pos, le_of_eq, le_of_lt, zero-mul, mul-le-mul, mul-le-mul_right, mul-lt-mul_of_pos_right, pow-succ'}
use native.Mathlib.Omega.{arith}
use mathlib.Core.Bool.{Bool, true, false, not}
use lib.Dec.{T, leb, leb→le, nleb→lt, lit<}
use lib.Count.{leading_of_zero}
use lib.Pow.{pow_mono, pow_pos}
use lib.Ieee.{binary64}
use Rattle.number.proofs.Patterns.{size_at, sizes_rise}
use Rattle.rounding.specs.Packing.{lift, significand, exponent}
use Rattle.rounding.proofs.Unpack.{units_unpacked, significand_in, exponent_lt}

-- the pattern b stands for m * 2 ^ k / 2 ^ 53 units, and the leading digit of m is at bit 52, where there is one
pub record Parted (b m k : ℕ) : Type 0 where
  pub value : size_at binary64 b * 2 ^ 53 ≡ m * 2 ^ k
  pub full : 0 < b → 2 ^ 52 ≤ m
  pub under : m < 2 ^ 53
  pub least : b ≡ 0 → k ≡ 0
  pub short : k < 2099

no_digits : significand 0 ≡ 0
unfolding significand
no_digits = zero-mul (2 ^ lift 0)

lowest : exponent 0 ≡ 0
unfolding exponent
lowest = ap (λ (x : ℕ). 53 - (x - 11)) (leading_of_zero 64)

pub parted : (b m k : ℕ) → b < 0x7ff0_0000_0000_0000 → (m ≡ significand b) × (k ≡ exponent b) → Parted b m k
parted b m k H (e, h) = record {
  value = units_unpacked b ∙ ap₂ (λ (x y : ℕ). x * 2 ^ y) (sym e) (sym h);
  full = λ P. subst (λ (x : ℕ). 2 ^ 52 ≤ x) (sym e) (significand_in b P).0;
  under =
      subst (λ (x : ℕ). x < 2 ^ 53) (sym e)
      (⊎_elim
      (λ (z : b ≡ 0). subst (λ (x : ℕ). x < 2 ^ 53) (sym (ap significand z ∙ no_digits)) (lit< tt))
      (λ (P : 0 < b). (significand_in b P).1)
      (eq-zero-or-pos b));
  least = λ z. h ∙ ap exponent z ∙ lowest;
  short = subst (λ (x : ℕ). x < 2099) (sym h) (exponent_lt b H);
}

-- the larger of two patterns has the larger exponent
pub exponents_rise : (a b m k n j : ℕ) → Parted a m k → Parted b n j → b ≤ a → j ≤ k
exponents_rise a b m k n j p q h = ⊎_elim (λ (z : b ≡ 0). omega (arith, q.least z)) (λ (P : 0 < b). go P (leb j k) (leb→le j k) (nleb→lt j k)) (eq-zero-or-pos b)
  where
    sizes : size_at binary64 b ≤ size_at binary64 a
    sizes = ⊎_elim (λ (e : b ≡ a). le_of_eq (ap (size_at binary64) e)) (λ (l : b < a). le_of_lt (sizes_rise binary64 b a l)) (eq-or-lt_of_le h)

    go : 0 < b → (t : Bool) → (T t → j ≤ k) → (T (not t) → k < j) → j ≤ k
    go P true x y = x tt
    go P false x y =
        let l : 2 ^ suc k ≤ 2 ^ j = pow_mono (y tt) in
        let lo : 2 ^ 52 * 2 ^ suc k ≤ n * 2 ^ j = mul-le-mul (q.full P) l in
        let hi : m * 2 ^ k < 2 ^ 53 * 2 ^ k = mul-lt-mul_of_pos_right p.under (pow_pos k) in
        let s : size_at binary64 b * 2 ^ 53 ≤ size_at binary64 a * 2 ^ 53 = mul-le-mul_right (2 ^ 53) sizes in
        absurd (omega (arith, p.value, q.value, pow-succ' 2 k))
