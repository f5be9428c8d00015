-- The mean of two numbers as recovery takes it: half of each, rounded where it is odd, and the sum rounded to p digits.
-- It is never outside the two; it lies strictly between them where a number of p digits does; and it halves the gap but for three units.
-- Nothing here is about floats. Assumes nothing.
use mathlib.Core.Path.{◌≡◌, refl, sym, ap, ◌∙◌}
use mathlib.Core.Logic.{◌⊎◌, inl, inr}
use Prim.Native.Nat.{ℕ, zero, suc, ◌+◌, ◌-◌, ◌*◌, ◌%◌, ◌^◌, ◌≤◌, ◌<◌, max}
use native.Mathlib.Nat.{le_trans, le_of_eq, le_of_lt, lt_of_lt_of_le, lt_of_le_of_lt, sub-add_cancel, le_of_mul-le-mul_right, lt_of_mul-lt-mul_right, add-mul}
use native.Mathlib.Omega.{arith}
use lib.Pow.{pow-add, pow_pos, pow_mono}
use lib.Ieee.{size}
use lib.Ieee.Digits.{size-lt, size-le}
use Rattle.number.proofs.Rounded.{sub_mul}
use Rattle.passing.proofs.Digits.{le_or_lt, cut, rnd, Short, below_short, power_short, upto_short, many, over, rnd_ge, rnd_le, near_low, rnd_self, mean_between}

-- h is half of a, and where a is odd the even one of the two next to it
pub record Half (a h : ℕ) : Type 0 where
  pub up : h + h ≤ a + 1
  pub down : a ≤ h + h + 1
  pub tie : a % 2 ≡ 1 → h % 2 ≡ 0

-- ---- not outside

pub mean_within : (p a b x y : ℕ) → 0 < p → Short p a → Short p b → Half a x → Half b y → a < b → (a ≤ rnd p (x + y)) × (rnd p (x + y) ≤ b)
mean_within p a b x y P sa sb H K h =
    (rnd_ge p P (x + y) a sa (omega (arith, H.down, K.down)), rnd_le p P (x + y) b sb (omega (arith, H.up, K.up)))

-- ---- strictly between, where something is

odd_lt : (a x y : ℕ) → a % 2 ≡ 1 → x % 2 ≡ 0 → y % 2 ≡ 0 → a ≤ x + y → a < x + y
odd_lt a x y o e f h = omega arith

lt_odd : (b x y : ℕ) → b % 2 ≡ 1 → x % 2 ≡ 0 → y % 2 ≡ 0 → x + y ≤ b → x + y < b
lt_odd b x y o e f h = omega arith

-- at 2 ^ p + 1, which has a digit too many, the tie goes to 2 ^ p
module _ (p : ℕ) (two : 2 ≤ p) (tie : rnd p (2 ^ p + 1) ≡ 2 ^ p) where
  P : 0 < p
  P = omega arith

  doubled : 2 ^ p ≡ 2 ^ (p - 1) * 2
  doubled = ap (λ (z : ℕ). 2 ^ z) (sym (sub-add_cancel P)) ∙ pow-add 2 (p - 1) 1

  -- the next of p digits after 2 ^ p
  next_short : Short p (2 ^ p + 2)
  next_short = record { lead = 2 ^ (p - 1) + 1; zeros = 1; few = omega (arith, doubled, pow_mono {i = 1} {j = p - 1} (omega arith)); is = omega (arith, doubled) }

  -- a is odd, and so below 2 ^ p, and b is not below: their mean m is half a unit off
  odd_below : (a b g m : ℕ) → a % 2 ≡ 1 → b % 2 ≡ 0 → a < 2 ^ p → 2 ^ p ≤ b → a < g → g < b → m + m ≤ a + b + 1 → a + b ≤ m + m + 1 → (a < rnd p m) × (rnd p m < b)
  odd_below a b g m o e A B h k x y = (omega (arith, rnd_ge p P m (a + 1) (upto_short p (a + 1) P (omega arith)) (omega arith)), upper (le_or_lt b (2 ^ p)))
    where
      upper : (b ≤ 2 ^ p) ⊎ (2 ^ p < b) → rnd p m < b
      upper (inl l) = omega (arith, rnd_le p P m (b - 1) (below_short p (b - 1) (omega arith)) (omega arith))
      upper (inr l) = elim (le_or_lt (2 ^ p) m) [
        | inr s ↦ omega (arith, rnd_le p P m (2 ^ p) (power_short p P) (le_of_lt s))
        | inl t ↦ elim (le_or_lt (2 ^ p) (a + 1)) [
          | inr s ↦ omega (arith, near_low p P m (2 ^ p) (power_short p P) t)
          | inl s ↦ elim (le_or_lt (2 ^ p + 4) b) [
            | inl w ↦ elim (le_or_lt (2 ^ p + 2) m) [
              | inl v ↦ omega (arith, near_low p P m (2 ^ p + 2) next_short v)
              | inr v ↦ omega (arith, rnd_le p P m (2 ^ p + 2) next_short (le_of_lt v))
            ]
            | inr w ↦ elim (le_or_lt m (2 ^ p)) [
              | inl v ↦ omega (arith, rnd_le p P m (2 ^ p) (power_short p P) v)
              | inr v ↦
                  let q : m ≡ 2 ^ p + 1 = omega (arith, doubled) in
                  omega (arith, ap (λ (z : ℕ). rnd p z) q, tie)
            ]
          ]
        ]
      ]

  even : (c : ℕ) → Short p c → 2 ^ p ≤ c → c % 2 ≡ 0
  even c s h = let t = many p 1 c P s (le_trans (pow_mono (omega arith)) h) in omega (arith, t.1)

  -- from 2 ^ p up the half of b is exact
  high_between : (a b g x y : ℕ) → Short p a → Short p b → Short p g → 2 ^ p ≤ b → Half a x → Half b y → a < g → g < b → (a < rnd p (x + y)) × (rnd p (x + y) < b)
  high_between a b g x y sa sb sg B H K h k = go (a % 2) refl (le_or_lt (2 ^ p) a)
    where
      go : (r : ℕ) → a % 2 ≡ r → (2 ^ p ≤ a) ⊎ (a < 2 ^ p) → (a < rnd p (x + y)) × (rnd p (x + y) < b)
      go zero e o = mean_between p a b g (x + y) P sg h k (omega (arith, even b sb B, H.up, H.down, K.up, K.down))
      go (suc zero) e (inl l) = absurd (omega (arith, even a sa l))
      go (suc zero) e (inr l) =
          odd_below a b g (x + y) e (even b sb B) l B h k
          (omega (arith, even b sb B, H.up, H.down, K.up, K.down))
          (omega (arith, even b sb B, H.up, H.down, K.up, K.down))
      go (suc (suc r)) e o = absurd (omega arith)

  -- below 2 ^ p the sum is exact
  low_mean : (a b g x y : ℕ) → Half a x → Half b y → a < g → g < b → (a < x + y) × (x + y < b)
  low_mean a b g x y H K h k = go (a % 2) (b % 2) refl refl
    where
      go : (r t : ℕ) → a % 2 ≡ r → b % 2 ≡ t → (a < x + y) × (x + y < b)
      go zero t e f = (omega (arith, H.up, H.down, K.up, K.down), omega (arith, H.up, H.down, K.up, K.down))
      go (suc zero) zero e f = (omega (arith, H.up, H.down, K.up, K.down), omega (arith, H.up, H.down, K.up, K.down))
      go (suc zero) (suc zero) e f = (odd_lt a x y e (H.tie e) (K.tie f) (omega (arith, H.down, K.down)), lt_odd b x y f (H.tie e) (K.tie f) (omega (arith, H.up, K.up)))
      go (suc zero) (suc (suc t)) e f = absurd (omega arith)
      go (suc (suc r)) t e f = absurd (omega arith)

  low_between : (a b g x y : ℕ) → b < 2 ^ p → Half a x → Half b y → a < g → g < b → (a < rnd p (x + y)) × (rnd p (x + y) < b)
  low_between a b g x y B H K h k =
      let m = low_mean a b g x y H K h k in
      rw (rnd_self p (x + y) P (below_short p (x + y) (lt_of_lt_of_le m.1 (le_of_lt B)))) m

  pub halves_between : (a b g x y : ℕ) → Short p a → Short p b → Short p g → Half a x → Half b y → a < g → g < b → (a < rnd p (x + y)) × (rnd p (x + y) < b)
  halves_between a b g x y sa sb sg H K h k = elim (le_or_lt (2 ^ p) b) [ inl B ↦ high_between a b g x y sa sb sg B H K h k | inr B ↦ low_between a b g x y B H K h k ]

-- ---- the gap, in units of 2 ^ cut p z, which every number of p digits from z up is a multiple of

-- what is at most twice z drops at most one digit more
pub unit_le : (p z m : ℕ) → m ≤ z + z → 2 ^ cut p m ≤ 2 ^ cut p z * 2
unit_le p z m h = le_trans (pow_mono (omega (arith, size-le m (size z + 1) (lt_of_le_of_lt h (omega (arith, size-lt z, pow-add 2 (size z) 1)))))) (le_of_eq (pow-add 2 (cut p z) 1))

-- a gap d of at most t units, and a gap of s units after a step
fewer : (u v d s t : ℕ) → 0 < u → v ≤ u * 2 → s * u + s * u ≤ d + 2 + v → d ≤ t * u → s + s ≤ t + 4
fewer u v d s t U h k l = le_of_mul-le-mul_right {k = u} (omega (arith, add-mul s s u, add-mul t 4 u)) U

-- from lo to hi: s units, fewer than t, and half as many but for two
pub record Closer (p z lo hi t : ℕ) : Type 0 where
  pub steps : ℕ
  pub gap : hi ≤ lo + steps * 2 ^ cut p z
  pub less : steps < t
  pub halved : steps + steps ≤ t + 4

-- v is the unit that the mean was rounded to
pub closer : (p z a b v lo hi t : ℕ) → 0 < p → Short p lo → Short p hi → z ≤ lo → lo < hi → v ≤ 2 ^ cut p z * 2
    → hi - lo + (hi - lo) ≤ b - a + 2 + v → hi - lo < b - a → b ≤ a + t * 2 ^ cut p z → Closer p z lo hi t
closer p z a b v lo hi t P sl sh h l w d e g =
    let u = 2 ^ cut p z in
    let i = over p z lo P sl h in
    let j = over p z hi P sh (omega arith) in
    let k : hi - lo ≡ (j.0 - i.0) * u = sym (sub_mul j.0 i.0 u ∙ ap (λ (q : ℕ). q - i.0 * u) (sym j.1) ∙ ap (λ (q : ℕ). hi - q) (sym i.1)) in
    record {
      steps = j.0 - i.0;
      gap = omega arith;
      less = lt_of_mul-lt-mul_right u (omega arith);
      halved = fewer u v (b - a) (j.0 - i.0) t (pow_pos (cut p z)) w (omega arith) (omega arith);
    }

-- how wide a gap n steps close
abbrev pub bound : ℕ → ℕ
bound zero = 1
bound (suc n) = max (bound n + 1) (2 * bound n - 3)

pub settle : (c s t : ℕ) → t ≤ max (c + 1) (2 * c - 3) → s < t → s + s ≤ t + 4 → s ≤ c
settle c s t h k l = omega arith
