-- What `significand` and `exponent` say of a pattern.
use mathlib.Core.Path.{◌≡◌, sym, ap, ◌∙◌, subst}
use mathlib.Core.Logic.{⊎_elim}
use Prim.Native.Nat.{ℕ, ◌+◌, ◌-◌, ◌*◌, ◌/◌, ◌%◌, ◌^◌, ◌≤◌, ◌<◌}
use native.Mathlib.Nat.{lt_of_lt_of_le, mod-eq_of_lt, eq-zero-or-pos, zero-mul, add_comm, mul_assoc}
use native.Mathlib.Omega.{arith}
use mathlib.Core.Bool.{Bool, true, false, not, cond}
use borrow.Author.Tests.{lt-ltb, le-ltb}
use lib.Dec.{T, ltb, ltb→lt, nltb→le, lit<, lit≤}
use lib.Pow.{pow-add}
use lib.Ieee.{binary64}
use lib.Count.{count_leading_zeros, leading_of_zero}
use Rattle.number.proofs.Patterns.{size_at, tiny, normal}
use Rattle.rounding.specs.Packing.{lift, significand, exponent}
use Rattle.rounding.proofs.Leading.{zeros_ge, zeros_le, lined_up}

-- ---- below the normal values
module _ (b : ℕ) (N : b < 2 ^ 52) where
  -- 64 zeros where there is no digit
  pub zeros_in : (11 ≤ count_leading_zeros 64 b) × (count_leading_zeros 64 b ≤ 64)
  zeros_in = ⊎_elim
      (λ (e : b ≡ 0).
      let of_zero = subst (λ (z : ℕ). (11 ≤ z) × (z ≤ 64)) (sym (leading_of_zero 64)) (lit≤ tt, lit≤ tt) in
      subst (λ (z : ℕ). (11 ≤ count_leading_zeros 64 z) × (count_leading_zeros 64 z ≤ 64)) (sym e) of_zero)
      (λ (P : 0 < b). (zeros_ge 52 b (lit< tt) P (omega arith), omega (arith, zeros_le 52 b (lit< tt) P (omega arith))))
      (eq-zero-or-pos b)

  lifted_lt : b * 2 ^ lift b < 2 ^ 53
  lifted_lt = ⊎_elim
      (λ (e : b ≡ 0). subst (λ (z : ℕ). z * 2 ^ lift b < 2 ^ 53) (sym e) (subst (λ (z : ℕ). z < 2 ^ 53) (sym (zero-mul (2 ^ lift b))) (lit< tt)))
      (λ (P : 0 < b). (lined_up 52 b (lit< tt) P (omega arith)).1)
      (eq-zero-or-pos b)

  lifted : b * 2 ^ lift b ≡ significand b
  unfolding significand
  lifted = sym (ap (λ t. cond t (b * 2 ^ lift b) (b % 2 ^ 52 + 2 ^ 52)) (lt-ltb b (2 ^ 52) N))

  pub code_lifted : b * 2 ^ lift b % 2 ^ 64 ≡ significand b
  code_lifted = mod-eq_of_lt (lt_of_lt_of_le lifted_lt (lit≤ tt)) ∙ lifted

  pub code_lift : 53 - lift b ≡ exponent b
  unfolding exponent
  code_lift = sym (ap (λ t. cond t (53 - lift b) (b / 2 ^ 52 + 52)) (lt-ltb b (2 ^ 52) N))

-- ---- the normal values, and what lies above them
module _ (b : ℕ) (N : 2 ^ 52 ≤ b) where
  pub code_field : b % 2 ^ 52 + 2 ^ 52 ≡ significand b
  unfolding significand
  code_field = sym (ap (λ t. cond t (b * 2 ^ lift b) (b % 2 ^ 52 + 2 ^ 52)) (le-ltb b (2 ^ 52) N))

  pub code_exponent : b / 2 ^ 52 + 52 ≡ exponent b
  unfolding exponent
  code_exponent = sym (ap (λ t. cond t (53 - lift b) (b / 2 ^ 52 + 52)) (le-ltb b (2 ^ 52) N))

-- ---- the value: significand b * 2 ^ exponent b is b's size on the grid of 2 ^ -1127
pub units_unpacked : (b : ℕ) → size_at binary64 b * 2 ^ 53 ≡ significand b * 2 ^ exponent b
units_unpacked b = go (ltb b (2 ^ 52)) (ltb→lt b (2 ^ 52)) (nltb→le b (2 ^ 52))
  where
    tiny_units : b < 2 ^ 52 → size_at binary64 b * 2 ^ 53 ≡ significand b * 2 ^ exponent b
    tiny_units N = ⊎_elim
        (λ (e : b ≡ 0). at_zero (significand b) (exponent b) e (sym (lifted b N)))
        (λ (P : 0 < b).
        let z = zeros_le 52 b (lit< tt) P (omega arith) in
        let y = zeros_in b N in
        let k : lift b + exponent b ≡ 53 = ap (λ (x : ℕ). lift b + x) (sym (code_lift b N)) ∙ omega arith in
        ap (λ (x : ℕ). x * 2 ^ 53) (tiny binary64 b N)
        ∙ ap (λ (x : ℕ). b * 2 ^ x) (sym k)
        ∙ ap (λ (x : ℕ). b * x) (pow-add 2 (lift b) (exponent b))
        ∙ sym (mul_assoc b (2 ^ lift b) (2 ^ exponent b))
        ∙ ap (λ (x : ℕ). x * 2 ^ exponent b) (lifted b N))
        (eq-zero-or-pos b)
      where
        at_zero : (m k : ℕ) → b ≡ 0 → m ≡ b * 2 ^ lift b → size_at binary64 b * 2 ^ 53 ≡ m * 2 ^ k
        at_zero m k e h =
            let n : m ≡ 0 = h ∙ ap (λ (x : ℕ). x * 2 ^ lift b) e ∙ zero-mul (2 ^ lift b) in
            ap (λ (x : ℕ). x * 2 ^ 53) (tiny binary64 b N ∙ e) ∙ sym (ap (λ (x : ℕ). x * 2 ^ k) n ∙ zero-mul (2 ^ k))

    normal_units : 2 ^ 52 ≤ b → size_at binary64 b * 2 ^ 53 ≡ significand b * 2 ^ exponent b
    normal_units N =
        let m = significand b in
        let s : size_at binary64 b ≡ m * 2 ^ (b / 2 ^ 52 - 1) = normal binary64 b N ∙ ap (λ (x : ℕ). x * 2 ^ (b / 2 ^ 52 - 1)) (add_comm (2 ^ 52) (b % 2 ^ 52) ∙ code_field b N) in
        ap (λ (x : ℕ). x * 2 ^ 53) s
        ∙ mul_assoc m (2 ^ (b / 2 ^ 52 - 1)) (2 ^ 53)
        ∙ ap (λ (x : ℕ). m * x) (sym (pow-add 2 (b / 2 ^ 52 - 1) 53))
        ∙ ap (λ (x : ℕ). m * 2 ^ x) (omega arith ∙ code_exponent b N)

    go : (t : Bool) → (T t → b < 2 ^ 52) → (T (not t) → 2 ^ 52 ≤ b) → size_at binary64 b * 2 ^ 53 ≡ significand b * 2 ^ exponent b
    go true l g = tiny_units (l tt)
    go false l g = normal_units (g tt)

-- where there is a digit, the leading one is at bit 52
pub significand_in : (b : ℕ) → 0 < b → (2 ^ 52 ≤ significand b) × (significand b < 2 ^ 53)
significand_in b P = go (ltb b (2 ^ 52)) (ltb→lt b (2 ^ 52)) (nltb→le b (2 ^ 52))
  where
    go : (t : Bool) → (T t → b < 2 ^ 52) → (T (not t) → 2 ^ 52 ≤ b) → (2 ^ 52 ≤ significand b) × (significand b < 2 ^ 53)
    go true l g = subst (λ (x : ℕ). (2 ^ 52 ≤ x) × (x < 2 ^ 53)) (lifted b (l tt)) (lined_up 52 b (lit< tt) P (omega (arith, l tt)))
    go false l g = subst (λ (x : ℕ). (2 ^ 52 ≤ x) × (x < 2 ^ 53)) (code_field b (g tt)) (omega arith, omega arith)

pub exponent_lt : (b : ℕ) → b < 0x7ff0_0000_0000_0000 → exponent b < 2099
exponent_lt b H = go (ltb b (2 ^ 52)) (ltb→lt b (2 ^ 52)) (nltb→le b (2 ^ 52))
  where
    go : (t : Bool) → (T t → b < 2 ^ 52) → (T (not t) → 2 ^ 52 ≤ b) → exponent b < 2099
    go true l g = subst (λ (x : ℕ). x < 2099) (code_lift b (l tt)) (omega arith)
    go false l g = subst (λ (x : ℕ). x < 2099) (code_exponent b (g tt)) (omega arith)
