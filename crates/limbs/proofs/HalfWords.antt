-- A product of two words from their halves of 32 bits, and a sum's carry.
use Rattle.std.proofs.Common.{◌≡◌, ℕ, ◌+◌, ◌-◌, ◌*◌, ◌/◌, ◌%◌, ◌^◌, ◌<◌, ◌≤◌, sym, ap, ◌∙◌, ap₂, add-zero, mul-le-mul, div-add-mod', arith}
use native.Mathlib.Nat.{mod-add-mod}

half_lt : (x : ℕ) → x < 2 ^ 64 → (x / 2 ^ 32 ≤ 2 ^ 32 - 1) × (x % 2 ^ 32 ≤ 2 ^ 32 - 1)
half_lt x h = (omega arith, omega arith)

module _ (a b : ℕ) (A : a < 2 ^ 64) (B : b < 2 ^ 64) where
  abbrev low : ℕ
  low = a % 2 ^ 32 * (b % 2 ^ 32)

  abbrev one : ℕ
  one = a / 2 ^ 32 * (b % 2 ^ 32) + low / 2 ^ 32

  abbrev two : ℕ
  two = a % 2 ^ 32 * (b / 2 ^ 32) + one % 2 ^ 32

  abbrev high : ℕ
  high = a / 2 ^ 32 * (b / 2 ^ 32) + one / 2 ^ 32 + two / 2 ^ 32

  -- no product of two halves passes (2 ^ 32 - 1) ^ 2
  pub record Fits : Type 0 where
    pub low_le : a % 2 ^ 32 * (b % 2 ^ 32) ≤ (2 ^ 32 - 1) * (2 ^ 32 - 1)
    pub left_le : a / 2 ^ 32 * (b % 2 ^ 32) ≤ (2 ^ 32 - 1) * (2 ^ 32 - 1)
    pub right_le : a % 2 ^ 32 * (b / 2 ^ 32) ≤ (2 ^ 32 - 1) * (2 ^ 32 - 1)
    pub high_le : a / 2 ^ 32 * (b / 2 ^ 32) ≤ (2 ^ 32 - 1) * (2 ^ 32 - 1)

  pub halves_fit : Fits
  halves_fit =
      let x = half_lt a A in
      let y = half_lt b B in
      record {
        low_le = mul-le-mul x.1 y.1;
        left_le = mul-le-mul x.0 y.1;
        right_le = mul-le-mul x.1 y.0;
        high_le = mul-le-mul x.0 y.0;
      }

  -- the product by its halves: p * 2 ^ 64 + (q + r) * 2 ^ 32 + l
  halved : a / 2 ^ 32 * (b / 2 ^ 32) * 2 ^ 64 + (a / 2 ^ 32 * (b % 2 ^ 32) + a % 2 ^ 32 * (b / 2 ^ 32)) * 2 ^ 32 + a % 2 ^ 32 * (b % 2 ^ 32) ≡ a * b
  halved = go (a / 2 ^ 32) (a % 2 ^ 32) (b / 2 ^ 32) (b % 2 ^ 32) (div-add-mod' a (2 ^ 32)) (div-add-mod' b (2 ^ 32))
    where
      go : (w x y z : ℕ) → w * 2 ^ 32 + x ≡ a → y * 2 ^ 32 + z ≡ b → w * y * 2 ^ 64 + (w * z + x * y) * 2 ^ 32 + x * z ≡ a * b
      go w x y z h k = omega (arith, ap₂ (λ (i j : ℕ). i * j) h k)

  pub high_is : high ≡ a * b / 2 ^ 64
  high_is = carry (a / 2 ^ 32 * (b / 2 ^ 32)) (a / 2 ^ 32 * (b % 2 ^ 32)) (a % 2 ^ 32 * (b / 2 ^ 32)) low ∙ ap (λ (x : ℕ). x / 2 ^ 64) halved
    where
      carry : (p q r l : ℕ) → p + (q + l / 2 ^ 32) / 2 ^ 32 + (r + (q + l / 2 ^ 32) % 2 ^ 32) / 2 ^ 32 ≡ (p * 2 ^ 64 + (q + r) * 2 ^ 32 + l) / 2 ^ 64
      carry p q r l = omega arith

  -- the low word, from sums that wrap
  pub low_is : (middle lo : ℕ) → middle ≡ (a / 2 ^ 32 * (b % 2 ^ 32) + a % 2 ^ 32 * (b / 2 ^ 32)) % 2 ^ 64 → lo ≡ (middle * 2 ^ 32 % 2 ^ 64 + low) % 2 ^ 64 → lo ≡ a * b % 2 ^ 64
  low_is middle lo m e =
      e
      ∙ ap (λ (x : ℕ). (x * 2 ^ 32 % 2 ^ 64 + low) % 2 ^ 64) m
      ∙ wrap (a / 2 ^ 32 * (b / 2 ^ 32)) (a / 2 ^ 32 * (b % 2 ^ 32) + a % 2 ^ 32 * (b / 2 ^ 32)) low
      ∙ ap (λ (x : ℕ). x % 2 ^ 64) halved
    where
      wrap : (p q l : ℕ) → (q % 2 ^ 64 * 2 ^ 32 % 2 ^ 64 + l) % 2 ^ 64 ≡ (p * 2 ^ 64 + q * 2 ^ 32 + l) % 2 ^ 64
      wrap p q l = omega arith

  -- the sums of the code stay in a word
  pub sums_fit : (one < 2 ^ 64) × (two < 2 ^ 64) × (a / 2 ^ 32 * (b / 2 ^ 32) + one / 2 ^ 32 < 2 ^ 64) × (high < 2 ^ 64)
  sums_fit = let f = halves_fit in (omega arith, omega arith, omega arith, omega arith)

-- ---- a sum that wraps is less than what was added to
module _ (x a b lo : ℕ) (A : a < 2 ^ 64) (B : b < 2 ^ 64) (L : lo ≡ (a + b) % 2 ^ 64) where
  pub carried : lo < a → (x % 2 ^ 64 + 1) % 2 ^ 64 ≡ (x + (a + b) / 2 ^ 64) % 2 ^ 64
  carried h = let c : (a + b) / 2 ^ 64 ≡ 1 = omega arith in mod-add-mod x (2 ^ 64) 1 ∙ ap (λ (y : ℕ). (x + y) % 2 ^ 64) (sym c)

  pub not_carried : a ≤ lo → x % 2 ^ 64 ≡ (x + (a + b) / 2 ^ 64) % 2 ^ 64
  not_carried h = let c : (a + b) / 2 ^ 64 ≡ 0 = omega arith in ap (λ (y : ℕ). y % 2 ^ 64) (sym (add-zero x)) ∙ ap (λ (y : ℕ). (x + y) % 2 ^ 64) (sym c)
