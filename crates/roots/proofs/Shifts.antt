-- A number of two words without its lowest s digits: the code of `cut`.
use mathlib.Core.Path.{◌≡◌, sym, ap, ◌∙◌, subst}
use Prim.Native.Nat.{ℕ, ◌+◌, ◌-◌, ◌*◌, ◌/◌, ◌%◌, ◌^◌, ◌≤◌, ◌<◌}
use native.Mathlib.Nat.{le_trans, mul-pos, mul-lt-mul_of_pos_right, mod-lt, mod-le, div-add-mod', div-mul-le_self, add-mul-mod_self_right, mul-add-div_right, pow-succ'}
use native.Mathlib.Omega.{arith}
use lib.Arith.{digits_mod}
use lib.Bits.{bit_or, or_shifted_r}
use lib.Pow.{pow-add, pow_pos, shr_lt}

-- plain numbers: a word is p * (2 * k), and the digits of h below p go to the upper end of the lower word
module _ (h l p k w : ℕ) (P : 0 < p) (K : 0 < k) (e : p * (2 * k) ≡ w) where
  carried : h * 2 % w * k % w ≡ h % p * (2 * k)
  carried =
      let x = h * 2 in
      sym (add-mul-mod_self_right (x % w * k) (x / w * k) w)
      ∙ ap (λ (y : ℕ). y % w) (go (x / w) (x % w) (h / p) (h % p) (div-add-mod' x w) (div-add-mod' h p))
      ∙ digits_mod (h / p) (subst (λ (y : ℕ). h % p * (2 * k) < y) e (mul-lt-mul_of_pos_right (mod-lt h P) (mul-pos (pow_pos 1) K)))
    where
      go : (a b q r : ℕ) → a * w + b ≡ h * 2 → q * p + r ≡ h → b * k + a * k * w ≡ q * w + r * (2 * k)
      go a b q r f g = omega (arith, ap (λ (y : ℕ). y * k) f, ap (λ (y : ℕ). 2 * (y * k)) g, ap (λ (y : ℕ). q * y) e)

  joined : h / p * w + (h % p * (2 * k) + l / p) ≡ (h * w + l) / p
  joined = sym (ap (λ (y : ℕ). y / p) (go (h / p) (h % p) (div-add-mod' h p)) ∙ mul-add-div_right P (h / p * w + h % p * (2 * k)) l ∙ omega arith)
    where
      go : (q r : ℕ) → q * p + r ≡ h → h * w + l ≡ (q * w + r * (2 * k)) * p + l
      go q r g = omega (arith, ap (λ (y : ℕ). y * w) g, ap (λ (y : ℕ). r * y) e)

-- ---- by a shift of s digits
module _ (h l s : ℕ) (L : l < 2 ^ 64) (S : s < 64) where
  twice : 2 * 2 ^ (63 - s) ≡ 2 ^ (64 - s)
  twice = sym (pow-succ' 2 (63 - s)) ∙ ap (λ (x : ℕ). 2 ^ x) (omega arith)

  word : 2 ^ s * (2 * 2 ^ (63 - s)) ≡ 2 ^ 64
  word = let e : s + (64 - s) ≡ 64 = omega arith in ap (λ (x : ℕ). 2 ^ s * x) twice ∙ sym (pow-add 2 s (64 - s)) ∙ ap (λ (x : ℕ). 2 ^ x) e

  pub code_cut : h / 2 ^ s * 2 ^ 64 + bit_or (l / 2 ^ s) (h * 2 % 2 ^ 64 * 2 ^ (63 - s) % 2 ^ 64) ≡ (h * 2 ^ 64 + l) / 2 ^ s
  code_cut =
      let e : 64 ≡ 64 - s + s = omega arith in
      ap (λ (x : ℕ). h / 2 ^ s * 2 ^ 64 + x)
      (ap (bit_or (l / 2 ^ s)) (carried h l (2 ^ s) (2 ^ (63 - s)) (2 ^ 64) (pow_pos s) (pow_pos (63 - s)) word ∙ ap (λ (x : ℕ). h % 2 ^ s * x) twice)
      ∙ or_shifted_r (h % 2 ^ s) (64 - s) (l / 2 ^ s) (shr_lt (64 - s) s (subst (λ (x : ℕ). l < 2 ^ x) e L))
      ∙ ap (λ (x : ℕ). h % 2 ^ s * x + l / 2 ^ s) (sym twice))
      ∙ joined h l (2 ^ s) (2 ^ (63 - s)) (2 ^ 64) (pow_pos s) (pow_pos (63 - s)) word

-- what is shifted out and in again is no more than was there
pub no_more : (l s : ℕ) → l / 2 ^ s * 2 ^ s % 2 ^ 64 ≤ l
no_more l s = le_trans (mod-le (l / 2 ^ s * 2 ^ s) (2 ^ 64)) (div-mul-le_self l (2 ^ s))
