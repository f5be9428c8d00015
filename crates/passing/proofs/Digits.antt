-- A natural number rounded to p binary digits: no number of p digits lies nearer, on either side. So the mean of two numbers
-- rounds to one strictly between them, where a number of p digits is. Nothing here is about floats. Assumes nothing.
use mathlib.Core.Path.{◌≡◌, refl, sym, ap, ◌∙◌}
use mathlib.Core.Logic.{◌⊎◌, inl, inr}
use mathlib.Core.Bool.{Bool, true, false, not}
use Prim.Native.Nat.{ℕ, suc, ◌+◌, ◌-◌, ◌*◌, ◌/◌, ◌%◌, ◌^◌, ◌≤◌, ◌<◌, compare, Ordering}
use native.Mathlib.Nat.{le_refl, le_trans, le_of_eq, le_of_lt, le_antisymm, lt_of_lt_of_le, lt_of_le_of_lt, lt_irrefl, eq-or-lt_of_le, eq-zero-or-pos}
use native.Mathlib.Nat.{mul-one, one-mul, suc-mul, mul_assoc, mul-le-mul_right, mul-lt-mul_of_pos_right, lt_of_mul-lt-mul_right}
use native.Mathlib.Nat.{le-div_iff_mul-le, div-add-mod', lt-div-mul-add}
use native.Mathlib.Omega.{arith}
use lib.Dec.{T, is_le, compare_is_eq, leb, leb→le, nleb→lt, eqb→eq}
use lib.Pow.{pow-add, pow_pos, pow_mono, pow-lt}
use lib.Ieee.{size, nearest}
use lib.Ieee.Digits.{size_reaches, back}
use lib.Ieee.Fits.{kept-lt}
use lib.Ieee.Nearest.{closest}

pub le_or_lt : (a b : ℕ) → (a ≤ b) ⊎ (b < a)
le_or_lt a b = go (leb a b) (leb→le a b) (nleb→lt a b)
  where
    go : (t : Bool) → (T t → a ≤ b) → (T (not t) → b < a) → (a ≤ b) ⊎ (b < a)
    go true l g = inl (l tt)
    go false l g = inr (g tt)

-- how many digits n has beyond p, and n to p digits: a multiple of 2 ^ cut
abbrev pub cut : ℕ → ℕ → ℕ
cut p n = size n - p

abbrev pub rnd : ℕ → ℕ → ℕ
rnd p n = closest n (2 ^ cut p n) * 2 ^ cut p n

-- ---- numbers with at most p digits before their closing zeros

pub record Short (p g : ℕ) : Type 0 where
  pub lead : ℕ
  pub zeros : ℕ
  pub few : lead < 2 ^ p
  pub is : g ≡ lead * 2 ^ zeros

pub below_short : (p g : ℕ) → g < 2 ^ p → Short p g
below_short p g h = record { lead = g; zeros = 0; few = h; is = sym (mul-one g) }

pub power_short : (p : ℕ) → 0 < p → Short p (2 ^ p)
power_short p P = record { lead = 1; zeros = p; few = pow-lt P; is = sym (one-mul (2 ^ p)) }

pub upto_short : (p g : ℕ) → 0 < p → g ≤ 2 ^ p → Short p g
upto_short p g P h = elim (eq-or-lt_of_le h) [ inl e ↦ rw e (power_short p P) | inr l ↦ below_short p g l ]

-- one that is large enough is a multiple of 2 ^ k
pub many : (p k g : ℕ) → 0 < p → Short p g → 2 ^ (p - 1 + k) ≤ g → (t : ℕ) × (g ≡ t * 2 ^ k)
many p k g P s h =
    let d = s.zeros - k in
    let parted : 2 ^ s.zeros ≡ 2 ^ d * 2 ^ k = sym (ap (λ (z : ℕ). 2 ^ z) (back s.zeros k enough)) ∙ pow-add 2 d k in
    (s.lead * 2 ^ d, s.is ∙ ap (λ (z : ℕ). s.lead * z) parted ∙ sym (mul_assoc s.lead (2 ^ d) (2 ^ k)))
  where
    clash : s.zeros < k → ⊥
    clash l =
        lt_irrefl g (lt_of_lt_of_le (lt_of_le_of_lt (le_of_eq s.is) (mul-lt-mul_of_pos_right s.few (pow_pos s.zeros)))
        (le_trans (le_of_eq (sym (pow-add 2 p s.zeros))) (le_trans (pow_mono (omega arith)) h)))

    enough : k ≤ s.zeros
    enough = elim (le_or_lt k s.zeros) [ inl l ↦ l | inr g ↦ absurd (clash g) ]

-- n reaches the digits that it drops
cut_reach : (p n : ℕ) → 0 < p → (cut p n ≡ 0) ⊎ (2 ^ (p - 1 + cut p n) ≤ n)
cut_reach p n P = elim (eq-zero-or-pos (cut p n)) [ inl e ↦ inl e | inr l ↦ inr (size_reaches n (p - 1 + cut p n) (omega arith)) ]

-- from n up: a multiple of what n is rounded to
pub over : (p n g : ℕ) → 0 < p → Short p g → n ≤ g → (t : ℕ) × (g ≡ t * 2 ^ cut p n)
over p n g P s h = elim (cut_reach p n P) [ inl e ↦ (g, rw e (sym (mul-one g))) | inr r ↦ many p (cut p n) g P s (le_trans r h) ]

-- up to n: not above a multiple that is not above n
under : (p n g : ℕ) → 0 < p → Short p g → g ≤ n → (t : ℕ) × (g ≤ t * 2 ^ cut p n) × (t * 2 ^ cut p n ≤ n)
under p n g P s h = elim (cut_reach p n P) [
  | inl e ↦ (g, rw e (le_of_eq (sym (mul-one g))), rw e (le_trans (le_of_eq (mul-one g)) h))
  | inr r ↦ elim (le_or_lt (2 ^ (p - 1 + cut p n)) g) [
    | inl l ↦ let m = many p (cut p n) g P s l in (m.0, le_of_eq m.1, le_trans (le_of_eq (sym m.1)) h)
    | inr l ↦
        let e : 2 ^ (p - 1 + cut p n) ≡ 2 ^ (p - 1) * 2 ^ cut p n = pow-add 2 (p - 1) (cut p n) in
        (2 ^ (p - 1), le_trans (le_of_lt l) (le_of_eq e), le_trans (le_of_eq (sym e)) r)
  ]
]

-- ---- `closest` is one of two

tie : (q : ℕ) → (q + q % 2 ≡ q) ⊎ (q + q % 2 ≡ suc q)
tie q = elim (eq-zero-or-pos (q % 2)) [ inl e ↦ inl (omega arith) | inr e ↦ inr (omega arith) ]

closest_is : (n u : ℕ) → ((closest n u ≡ n / u) × (n % u * 2 ≤ u)) ⊎ ((closest n u ≡ suc (n / u)) × (u ≤ n % u * 2))
closest_is n u = go (compare (n % u * 2) u) (leb→le (n % u * 2) u) (nleb→lt (n % u * 2) u) (eqb→eq (n % u * 2) u)
  where
    go : (o : Ordering) → (T (is_le o) → n % u * 2 ≤ u) → (T (not (is_le o)) → u < n % u * 2) → (T (compare_is_eq o) → n % u * 2 ≡ u)
        → ((nearest (n / u) o ≡ n / u) × (n % u * 2 ≤ u)) ⊎ ((nearest (n / u) o ≡ suc (n / u)) × (u ≤ n % u * 2))
    go Ordering.lt h k e = inl (refl, h tt)
    go Ordering.eq h k e = elim (tie (n / u)) [ inl a ↦ inl (a, h tt) | inr a ↦ inr (a, le_of_eq (sym (e tt))) ]
    go Ordering.gt h k e = inr (refl, le_of_lt (k tt))

-- the rounded number itself: below n, or above it
spot : (n u : ℕ) → ((closest n u * u ≡ n / u * u) × (n % u * 2 ≤ u)) ⊎ ((closest n u * u ≡ n / u * u + u) × (u ≤ n % u * 2))
spot n u = elim (closest_is n u) [ inl a ↦ inl (ap (λ (z : ℕ). z * u) a.0, a.1) | inr a ↦ inr (ap (λ (z : ℕ). z * u) a.0 ∙ suc-mul (n / u) u, a.1) ]

pub rnd_short : (p n : ℕ) → 0 < p → Short p (rnd p n)
rnd_short p n P =
    let c = closest n (2 ^ cut p n) in
    let h : c ≤ 2 ^ p = elim (closest_is n (2 ^ cut p n)) [ inl a ↦ omega (arith, a.0, kept-lt p n) | inr a ↦ omega (arith, a.0, kept-lt p n) ] in
    elim (eq-or-lt_of_le h) [
      | inl e ↦ record { lead = 1; zeros = p + cut p n; few = pow-lt P; is = ap (λ (z : ℕ). z * 2 ^ cut p n) e ∙ sym (pow-add 2 p (cut p n)) ∙ sym (one-mul (2 ^ (p + cut p n))) }
      | inr l ↦ record { lead = c; zeros = cut p n; few = l; is = refl }
    ]

-- ---- the nearest

-- a multiple of u that is at most n is at most n's whole part, and one that is more than n's whole part is a whole u more
whole_le : (n u t : ℕ) → 0 < u → t * u ≤ n → t * u ≤ n / u * u
whole_le n u t U h = mul-le-mul_right u ((le-div_iff_mul-le U).1 h)

whole_gt : (n u t : ℕ) → 0 < n % u → n ≤ t * u → suc (n / u) * u ≤ t * u
whole_gt n u t W h = mul-le-mul_right u (lt_of_mul-lt-mul_right u (omega (arith, div-add-mod' n u)))

module _ (p : ℕ) (P : 0 < p) (n g : ℕ) (s : Short p g) where
  low_end : g ≤ n → g ≤ n / 2 ^ cut p n * 2 ^ cut p n
  low_end h = let t = under p n g P s h in le_trans t.1 (whole_le n (2 ^ cut p n) t.0 (pow_pos (cut p n)) t.2)

  high_end : n ≤ g → 0 < n % 2 ^ cut p n → n / 2 ^ cut p n * 2 ^ cut p n + 2 ^ cut p n ≤ g
  high_end h w =
      let t = over p n g P s h in
      let k : suc (n / 2 ^ cut p n) * 2 ^ cut p n ≤ t.0 * 2 ^ cut p n = whole_gt n (2 ^ cut p n) t.0 w (le_trans h (le_of_eq t.1)) in
      omega (arith, t.1, suc-mul (n / 2 ^ cut p n) (2 ^ cut p n))

  pub rnd_ge : g ≤ n → g ≤ rnd p n
  rnd_ge h = elim (spot n (2 ^ cut p n)) [ inl a ↦ omega (arith, low_end h, a.0) | inr a ↦ omega (arith, low_end h, a.0) ]

  pub rnd_le : n ≤ g → rnd p n ≤ g
  rnd_le h = elim (spot n (2 ^ cut p n)) [
    | inl a ↦ omega (arith, a.0, div-add-mod' n (2 ^ cut p n))
    | inr a ↦ omega (arith, a.0, high_end h (omega (arith, a.1, pow_pos (cut p n))))
  ]

  pub near_low : g ≤ n → rnd p n + g ≤ n + n
  near_low h = elim (spot n (2 ^ cut p n)) [
    | inl a ↦ omega (arith, a.0, div-add-mod' n (2 ^ cut p n))
    | inr a ↦ omega (arith, a.0, a.1, low_end h, div-add-mod' n (2 ^ cut p n))
  ]

  near_high : n ≤ g → n + n ≤ rnd p n + g
  near_high h = elim (spot n (2 ^ cut p n)) [
    | inl a ↦ elim (eq-zero-or-pos (n % 2 ^ cut p n)) [
      | inl z ↦ omega (arith, a.0, div-add-mod' n (2 ^ cut p n))
      | inr w ↦ omega (arith, a.0, a.1, high_end h w, div-add-mod' n (2 ^ cut p n))
    ]
    | inr a ↦ omega (arith, a.0, lt-div-mul-add {a = n} {b = 2 ^ cut p n} (pow_pos (cut p n)))
  ]

pub rnd_self : (p g : ℕ) → 0 < p → Short p g → rnd p g ≡ g
rnd_self p g P s = le_antisymm (rnd_le p P g g s (le_refl g)) (rnd_ge p P g g s (le_refl g))

-- half a unit off at most
pub off_up : (p n : ℕ) → rnd p n + rnd p n ≤ n + n + 2 ^ cut p n
off_up p n = elim (spot n (2 ^ cut p n)) [ inl a ↦ omega (arith, a.0, div-add-mod' n (2 ^ cut p n)) | inr a ↦ omega (arith, a.0, a.1, div-add-mod' n (2 ^ cut p n)) ]

pub off_down : (p n : ℕ) → n + n ≤ rnd p n + rnd p n + 2 ^ cut p n
off_down p n = elim (spot n (2 ^ cut p n)) [
  | inl a ↦ omega (arith, a.0, a.1, div-add-mod' n (2 ^ cut p n))
  | inr a ↦ omega (arith, a.0, lt-div-mul-add {a = n} {b = 2 ^ cut p n} (pow_pos (cut p n)))
]

-- ---- the exact mean m of a and b

pub mean_between : (p a b g m : ℕ) → 0 < p → Short p g → a < g → g < b → m + m ≡ a + b → (a < rnd p m) × (rnd p m < b)
mean_between p a b g m P s h k e = elim (le_or_lt g m) [
  | inl l ↦ (omega (arith, rnd_ge p P m g s l), omega (arith, near_low p P m g s l))
  | inr l ↦ (omega (arith, near_high p P m g s (le_of_lt l)), omega (arith, rnd_le p P m g s (le_of_lt l)))
]
