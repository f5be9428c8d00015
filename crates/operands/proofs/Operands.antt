-- What a pattern's sign and magnitude stand for, which patterns are special, and what the code of `special`, `normal` and `split` finds. Assumes nothing.
use Rattle.std.proofs.Common.{◌≡◌, ℕ, zero, suc, ◌+◌, ◌*◌, ◌/◌, ◌%◌, ◌^◌, ◌<◌, ◌≤◌, Bool, true, false, cond, not, ◌&&◌, T, eqb, ltb, leb, ◌⊎◌, sym, refl, ap, ◌∙◌, subst, ap₂, inl, inr, le_of_eq, lt_of_lt_of_le, lt_of_le_of_lt, lt_irrefl, mod-eq_of_lt, zero-lt-suc, eq-zero-or-pos, eq-or-lt_of_le, mul-pos, zero-mul, arith, lit<, ltb→lt, leb→le, nltb→le, pow_pos, ltb-true, le-ltb, lt-ltb, ne_eqb, le-leb, leb-true}
use mathlib.Core.Bool.{and-false, false≢true}
use borrow.Author.Tests.{lt-leb}
use lib.Dec.{nleb→lt}
use lib.Pow.{field}
use lib.Ieee.{Float, nan, inf, fin, binary64, up, down, of_bits}
use lib.Ieee.Fits.{up_pos, down_pos}
use lib.Ieee.Exact.{HasValue}
use Rattle.number.proofs.Patterns.{size_at, tiny, sizes_rise, pattern_signed, infinite_signed}
use Rattle.number.proofs.ReadBack.{nan_pattern}
use Rattle.rounding.specs.Packing.{significand, exponent}
use Rattle.rounding.proofs.Unpack.{significand_in, exponent_lt, code_field, code_exponent}
use Rattle.operands.specs.SignAndSize.{is_special, sign_bit, magnitude, is_normal, Unpacked}

-- ---- a zero is a value of size 0
special_value : (x : Float) (s : Bool) (a c : ℕ) → 0 < c → HasValue x s a c → is_special x ≡ eqb a 0
special_value nan s a c C h = absurd h
special_value (inf t) s a c C h = absurd h
special_value (fin t zero e) s zero c C h = refl
special_value (fin t zero e) s (suc a) c C h = absurd (lt_irrefl 0 (subst (λ (z : ℕ). 0 < z) (sym h.1 ∙ nought (up e) c) (mul-pos (zero-lt-suc a) (down_pos e))))
  where
    nought : (u c : ℕ) → 0 * u * c ≡ 0
    nought u c = omega arith
special_value (fin t (suc m) e) s zero c C h = absurd (lt_irrefl 0 (subst (λ (z : ℕ). 0 < z) (h.1 ∙ zero-mul (down e)) (mul-pos (mul-pos (zero-lt-suc m) (up_pos e)) C)))
special_value (fin t (suc m) e) s (suc a) c C h = ne_eqb (suc m) 0 (λ z. omega arith) ∙ sym (ne_eqb (suc a) 0 (λ z. omega arith))

pub all_true : (p q r : Bool) → (p && (q && r)) ≡ true → (p ≡ true) × (q ≡ true) × (r ≡ true)
all_true true true r e = (refl, refl, e)
all_true true false r e = absurd (false≢true e)
all_true false q r e = absurd (false≢true e)

-- ---- the two parts of a pattern
abbrev infinite : ℕ
infinite = 0x7ff0_0000_0000_0000

module _ (b : ℕ) (B : b < 2 ^ 64) where
  reads : of_bits binary64 (cond (sign_bit b) (2 ^ 63) 0 + magnitude b) ≡ of_bits binary64 b
  reads = ap (of_bits binary64) (go (leb (2 ^ 63) b) (leb→le (2 ^ 63) b) (nleb→lt (2 ^ 63) b))
    where
      go : (t : Bool) → (T t → 2 ^ 63 ≤ b) → (T (not t) → b < 2 ^ 63) → cond t (2 ^ 63) 0 + b % 2 ^ 63 ≡ b
      go true l g = let i = l tt in omega arith
      go false l g = let i = g tt in omega arith

  value : magnitude b < infinite → HasValue (of_bits binary64 b) (sign_bit b) (size_at binary64 (magnitude b)) (2 ^ 1074)
  value h = subst (λ (v : Float). HasValue v (sign_bit b) (size_at binary64 (magnitude b)) (2 ^ 1074)) reads (pattern_signed binary64 (sign_bit b) (magnitude b) h)

  pub special_zero : magnitude b ≡ 0 → true ≡ is_special (of_bits binary64 b)
  special_zero e =
      sym
      (special_value (of_bits binary64 b) (sign_bit b) (size_at binary64 (magnitude b)) (2 ^ 1074) (pow_pos 1074) (value (lt_of_le_of_lt (le_of_eq e) (lit< tt)))
      ∙ ap (λ (n : ℕ). eqb (size_at binary64 n) 0) e
      ∙ ap (λ (n : ℕ). eqb n 0) (tiny binary64 0 (lit< tt)))

  special_high : infinite ≤ magnitude b → is_special (of_bits binary64 b) ≡ true
  special_high h = elim (eq-or-lt_of_le h) [
    | inl e ↦ ap is_special (sym reads ∙ ap (λ (n : ℕ). of_bits binary64 (cond (sign_bit b) (2 ^ 63) 0 + n)) (sym e) ∙ infinite_signed binary64 (sign_bit b))
    | inr l ↦ ap is_special (nan_pattern b l)
  ]

  not_special : 0 < magnitude b → magnitude b < infinite → is_special (of_bits binary64 b) ≡ false
  not_special g h =
      let p : 0 < size_at binary64 (magnitude b) = subst (λ (z : ℕ). z < size_at binary64 (magnitude b)) (tiny binary64 0 (lit< tt)) (sizes_rise binary64 0 (magnitude b) g) in
      special_value (of_bits binary64 b) (sign_bit b) (size_at binary64 (magnitude b)) (2 ^ 1074) (pow_pos 1074) (value h)
      ∙ ne_eqb (size_at binary64 (magnitude b)) 0 (λ e. lt_irrefl 0 (subst (λ (z : ℕ). 0 < z) e p))

  -- the code of `special`
  pub special_rest : (magnitude b ≡ 0 → ⊥) → leb infinite (magnitude b) ≡ is_special (of_bits binary64 b)
  special_rest n = go (leb infinite (magnitude b)) (leb→le infinite (magnitude b)) (nleb→lt infinite (magnitude b))
    where
      go : (t : Bool) → (T t → infinite ≤ magnitude b) → (T (not t) → magnitude b < infinite) → t ≡ is_special (of_bits binary64 b)
      go true l g = sym (special_high (l tt))
      go false l g = sym (not_special (omega arith) (g tt))

  -- ---- a normal value
  normal_in : is_normal b ≡ true → (2 ^ 52 ≤ magnitude b) × (magnitude b < infinite)
  normal_in e = go (leb (2 ^ 52) (magnitude b)) (ltb (magnitude b) infinite) (leb-true (2 ^ 52) (magnitude b)) (ltb-true (magnitude b) infinite) e
    where
      go : (p q : Bool) → (p ≡ true → 2 ^ 52 ≤ magnitude b) → (q ≡ true → magnitude b < infinite) → (p && q) ≡ true → (2 ^ 52 ≤ magnitude b) × (magnitude b < infinite)
      go true q l g e = (l refl, g e)
      go false q l g e = absurd (false≢true e)

  pub normal_not_special : is_normal b ≡ true → is_special (of_bits binary64 b) ≡ false
  normal_not_special e = let h = normal_in e in not_special (lt_of_lt_of_le (lit< tt) h.0) h.1

  -- the code of `normal`: w is the exponent's field, less one
  pub code_normal : (w : ℕ) → w < 2 ^ 64 → (w + 1) % 2 ^ 64 ≡ b / 2 ^ 52 % 2048 → ltb w 2046 ≡ is_normal b
  code_normal w W e = go (eq-or-lt_of_le {n = w + 1} {m = 2 ^ 64} (omega arith))
    where
      p : ℕ
      p = magnitude b

      f : p / 2 ^ 52 ≡ b / 2 ^ 52 % 2048
      f = field b 11 52

      -- the exponent's field is 0
      least : (p w : ℕ) → w + 1 ≡ 2 ^ 64 → p / 2 ^ 52 ≡ (w + 1) % 2 ^ 64 → (p < 2 ^ 52) × (2046 ≤ w)
      least p w z h = let r : (w + 1) % 2 ^ 64 ≡ 0 = ap (λ (n : ℕ). n % 2 ^ 64) z in (omega arith, omega arith)

      small : (p w : ℕ) → p / 2 ^ 52 ≡ w + 1 → w < 2046 → (2 ^ 52 ≤ p) × (p < infinite)
      small p w h l = (omega arith, omega arith)

      large : (p w : ℕ) → p / 2 ^ 52 ≡ w + 1 → 2046 ≤ w → infinite ≤ p
      large p w h l = omega arith

      go : (w + 1 ≡ 2 ^ 64) ⊎ (w + 1 < 2 ^ 64) → ltb w 2046 ≡ is_normal b
      go (inl z) = let h = least p w z (f ∙ sym e) in le-ltb w 2046 h.1 ∙ sym (ap (λ (q : Bool). q && ltb p infinite) (lt-leb (2 ^ 52) p h.0))
      go (inr l) = at (ltb w 2046) (ltb→lt w 2046) (nltb→le w 2046)
        where
          g : p / 2 ^ 52 ≡ w + 1
          g = f ∙ sym e ∙ mod-eq_of_lt l

          at : (t : Bool) → (T t → w < 2046) → (T (not t) → 2046 ≤ w) → t ≡ is_normal b
          at true a c = let h = small p w g (a tt) in sym (ap₂ ◌&&◌ (le-leb (2 ^ 52) p h.0) (lt-ltb p infinite h.1))
          at false a c = sym (ap (λ (q : Bool). leb (2 ^ 52) p && q) (le-ltb p infinite (large p w g (c tt))) ∙ and-false (leb (2 ^ 52) p))

  -- what `fields` finds in a normal value's magnitude
  pub code_fields : is_normal b ≡ true → (m k : ℕ) → (m ≡ magnitude b % 2 ^ 52 + 2 ^ 52) × (k ≡ magnitude b / 2 ^ 52 + 52) → Unpacked b m k
  code_fields e m k (f, g) = let h = normal_in e in (f ∙ code_field (magnitude b) h.0, g ∙ code_exponent (magnitude b) h.0)

  -- ---- a pattern that is not special: m * 2 ^ k / 2 ^ 1127, the leading digit of m at bit 52
  module _ (S : is_special (of_bits binary64 b) ≡ false) where
    in_range : (0 < magnitude b) × (magnitude b < infinite)
    in_range = (
      elim (eq-zero-or-pos (magnitude b)) [
        | inl e ↦ absurd (false≢true (sym S ∙ sym (special_zero e)))
        | inr l ↦ l
      ],
      go (ltb (magnitude b) infinite) (ltb→lt (magnitude b) infinite) (nltb→le (magnitude b) infinite),
    )
      where
        go : (t : Bool) → (T t → magnitude b < infinite) → (T (not t) → infinite ≤ magnitude b) → magnitude b < infinite
        go true l g = l tt
        go false l g = absurd (false≢true (sym S ∙ special_high (g tt)))

    pub digits : (2 ^ 52 ≤ significand (magnitude b)) × (significand (magnitude b) < 2 ^ 53)
    digits = significand_in (magnitude b) in_range.0

    pub exponent_small : exponent (magnitude b) < 2099
    exponent_small = exponent_lt (magnitude b) in_range.1

    pub in_units : HasValue (of_bits binary64 b) (sign_bit b) (size_at binary64 (magnitude b)) (2 ^ 1074)
    in_units = value in_range.1
