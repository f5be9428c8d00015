-- Powers of two at variable exponents.
use mathlib.Core.Path.{◌≡◌, sym, ap, ◌∙◌}
use Prim.Native.Nat.{ℕ, suc, ◌+◌, ◌-◌, ◌*◌, ◌^◌, ◌≤◌, ◌<◌}
use native.Mathlib.Nat.{lt_irrefl, lt_of_lt_of_le, lt_of_not-le, not-le_of_lt, le_of_suc-le-suc, mul_assoc, pow-succ'}
use native.Mathlib.Omega.{arith}
use lib.Pow.{pow-add, pow-lt, pow_mono}

pub half_pow : (sh : ℕ) → 0 < sh → 2 ^ sh ≡ 2 * 2 ^ (sh - 1)
half_pow sh h = ap (λ (x : ℕ). 2 ^ x) (eq sh h) ∙ pow-succ' 2 (sh - 1)
  where
    eq : (p : ℕ) → 0 < p → p ≡ suc (p - 1)
    eq p h = omega arith

-- the exponents are in the order of the powers
pub pow_le_back : (a l : ℕ) → 2 ^ a ≤ 2 ^ l → a ≤ l
pow_le_back a l h = le_of_suc-le-suc (lt_of_not-le (λ (g : suc l ≤ a). lt_irrefl (2 ^ l) (lt_of_lt_of_le (pow-lt g) h)))

pub pow_lt_back : (a l : ℕ) → 2 ^ a < 2 ^ l → a < l
pow_lt_back a l h = lt_of_not-le (λ (g : l ≤ a). not-le_of_lt h (pow_mono g))

-- a product of powers is known by the sum of the exponents
pub three_powers : (m a b c x y z : ℕ) → a + b + c ≡ x + (y + z) → m * 2 ^ a * 2 ^ b * 2 ^ c ≡ m * 2 ^ x * (2 ^ y * 2 ^ z)
three_powers m a b c x y z e =
    let l : m * 2 ^ (a + b + c) ≡ m * 2 ^ a * 2 ^ b * 2 ^ c = simp (pow-add, mul_assoc) in
    let r : m * 2 ^ (x + (y + z)) ≡ m * 2 ^ x * (2 ^ y * 2 ^ z) = simp (pow-add, mul_assoc) in
    sym l ∙ ap (λ (i : ℕ). m * 2 ^ i) e ∙ r
