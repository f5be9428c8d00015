-- A finite value as a signed fraction, (plus_part x - minus_part x) / den x, over natural numbers; `den` is lib.Ieee.Positive's.
-- Two finite values are in the order of their fractions, which is an inequality of natural numbers. Assumes nothing.
use Rattle.std.proofs.Common.{◌≡◌, ℕ, ◌+◌, ◌*◌, ◌<◌, ◌≤◌, Bool, true, false, ◌||◌, T, eqb, ◌⊎◌, ℤ, refl, ap, ◌∙◌, inl, inr, le_of_eq, le_of_lt, mul-le-mul_right, mul_assoc, mul_comm, add-mul, lt_of_mul-lt-mul_right, eq-or-lt_of_le, mul-lt-mul_of_pos_right, mul-pos, zero-mul, mul-add, le_of_mul-le-mul_right, mul_left_comm, arith, eqb→eq, ltb→lt, lt→ltb}
use lib.Ieee.{Float, nan, inf, fin, up, down, below, level, le, lt}
use lib.Ieee.Fits.{and_l, and_r, and_i, eq→eqb}
use lib.Ieee.Exact.{HasValue}
use lib.Ieee.Scale.{finite}
use lib.Ieee.Positive.{den, den_pos}

-- ---- a test `or` another

pub or_l : (a b : Bool) → T a → T (a || b)
or_l true b t = tt
or_l false b t = absurd t

pub or_r : (a b : Bool) → T b → T (a || b)
or_r true b t = tt
or_r false b t = t

pub or_split : (a b : Bool) → T (a || b) → T a ⊎ T b
or_split true b t = inl tt
or_split false b t = inr t

-- ---- ±a as a difference of two natural numbers

abbrev pub plus_of : Bool → ℕ → ℕ
plus_of false a = a
plus_of true a = 0

abbrev pub minus_of : Bool → ℕ → ℕ
minus_of false a = 0
minus_of true a = a

-- ±a < ±b
below→ : (s : Bool) (a : ℕ) (t : Bool) (b : ℕ) → T (below s a t b) → plus_of s a + minus_of t b < plus_of t b + minus_of s a
below→ false a false b h = omega (arith, ltb→lt a b h)
below→ false a true b h = absurd h
below→ true a false b h = omega (arith, ltb→lt 0 (a + b) h)
below→ true a true b h = omega (arith, ltb→lt b a h)

→below : (s : Bool) (a : ℕ) (t : Bool) (b : ℕ) → plus_of s a + minus_of t b < plus_of t b + minus_of s a → T (below s a t b)
→below false a false b h = lt→ltb a b (omega arith)
→below false a true b h = absurd (omega arith)
→below true a false b h = lt→ltb 0 (a + b) (omega arith)
→below true a true b h = lt→ltb b a (omega arith)

-- ±a = ±b
pub level→ : (s : Bool) (a : ℕ) (t : Bool) (b : ℕ) → T (level s a t b) → plus_of s a + minus_of t b ≡ plus_of t b + minus_of s a
level→ false a false b h = omega (arith, eqb→eq a b (and_l (eqb a b) true h))
level→ false a true b h = omega (arith, eqb→eq a b (and_l (eqb a b) (eqb a 0) h), eqb→eq a 0 (and_r (eqb a b) (eqb a 0) h))
level→ true a false b h = omega (arith, eqb→eq a b (and_l (eqb a b) (eqb a 0) h), eqb→eq a 0 (and_r (eqb a b) (eqb a 0) h))
level→ true a true b h = omega (arith, eqb→eq a b (and_l (eqb a b) true h))

→level : (s : Bool) (a : ℕ) (t : Bool) (b : ℕ) → plus_of s a + minus_of t b ≡ plus_of t b + minus_of s a → T (level s a t b)
→level false a false b h = and_i (eqb a b) true (eq→eqb {a = a} {b = b} (omega arith)) tt
→level false a true b h = and_i (eqb a b) (eqb a 0) (eq→eqb {a = a} {b = b} (omega arith)) (eq→eqb {a = a} {b = 0} (omega arith))
→level true a false b h = and_i (eqb a b) (eqb a 0) (eq→eqb {a = a} {b = b} (omega arith)) (eq→eqb {a = a} {b = 0} (omega arith))
→level true a true b h = and_i (eqb a b) true (eq→eqb {a = a} {b = b} (omega arith)) tt

-- ±a ≤ ±b
pub at_most→ : (s : Bool) (a : ℕ) (t : Bool) (b : ℕ) → T (below s a t b || level s a t b) → plus_of s a + minus_of t b ≤ plus_of t b + minus_of s a
at_most→ s a t b h = elim (or_split (below s a t b) (level s a t b) h) [ inl u ↦ le_of_lt (below→ s a t b u) | inr u ↦ le_of_eq (level→ s a t b u) ]

pub →at_most : (s : Bool) (a : ℕ) (t : Bool) (b : ℕ) → plus_of s a + minus_of t b ≤ plus_of t b + minus_of s a → T (below s a t b || level s a t b)
→at_most s a t b h = elim (eq-or-lt_of_le h) [ inl e ↦ or_r (below s a t b) (level s a t b) (→level s a t b e) | inr l ↦ or_l (below s a t b) (level s a t b) (→below s a t b l) ]

pub plus_times_lem : (s : Bool) (a c : ℕ) → plus_of s a * c ≡ plus_of s (a * c)
plus_times_lem false a c = refl
plus_times_lem true a c = zero-mul c

pub minus_times_lem : (s : Bool) (a c : ℕ) → minus_of s a * c ≡ minus_of s (a * c)
minus_times_lem false a c = zero-mul c
minus_times_lem true a c = refl

-- ---- a finite value as a fraction, and 0 / 1 for a NaN and an infinity

abbrev pub plus_part : Float → ℕ
plus_part nan = 0
plus_part (inf s) = 0
plus_part (fin s m e) = plus_of s (m * up e)

abbrev pub minus_part : Float → ℕ
minus_part nan = 0
minus_part (inf s) = 0
minus_part (fin s m e) = minus_of s (m * up e)

-- (p - n) / d ≤ (p' - n') / d', and <
abbrev pub AtMost : ℕ → ℕ → ℕ → ℕ → ℕ → ℕ → Type 0
AtMost p n d p' n' d' = p * d' + n' * d ≤ p' * d + n * d'

abbrev pub Below : ℕ → ℕ → ℕ → ℕ → ℕ → ℕ → Type 0
Below p n d p' n' d' = p * d' + n' * d < p' * d + n * d'

-- what holds of two significands with their exponents holds of two finite doubles
both_finite : (P : Float → Float → Type 0) → ((s : Bool) (m : ℕ) (e : ℤ) (t : Bool) (n : ℕ) (d : ℤ) → P (fin s m e) (fin t n d))
    → (x y : Float) → T (finite x) → T (finite y) → P x y
both_finite P f nan y a b = absurd a
both_finite P f (inf s) y a b = absurd a
both_finite P f (fin s m e) nan a b = absurd b
both_finite P f (fin s m e) (inf t) a b = absurd b
both_finite P f (fin s m e) (fin t n d) a b = f s m e t n d

abbrev FloatsAtMost : Float → Float → Type 0
FloatsAtMost x y = AtMost (plus_part x) (minus_part x) (den x) (plus_part y) (minus_part y) (den y)

abbrev FloatsBelow : Float → Float → Type 0
FloatsBelow x y = Below (plus_part x) (minus_part x) (den x) (plus_part y) (minus_part y) (den y)

pub le→AtMost : (x y : Float) → T (finite x) → T (finite y) → T (le x y) → FloatsAtMost x y
unfolding le
le→AtMost =
    both_finite (λ x y. T (le x y) → FloatsAtMost x y)
    (λ s m e t n d h. simp (plus_times_lem, minus_times_lem) (at_most→ s (m * up e * down d) t (n * up d * down e) h))

pub AtMost→le : (x y : Float) → T (finite x) → T (finite y) → FloatsAtMost x y → T (le x y)
unfolding le
AtMost→le =
    both_finite (λ x y. FloatsAtMost x y → T (le x y))
    (λ s m e t n d h. →at_most s (m * up e * down d) t (n * up d * down e) (simp (plus_times_lem, minus_times_lem) at h))

pub lt→Below : (x y : Float) → T (finite x) → T (finite y) → T (lt x y) → FloatsBelow x y
unfolding lt
lt→Below =
    both_finite (λ x y. T (lt x y) → FloatsBelow x y)
    (λ s m e t n d h. simp (plus_times_lem, minus_times_lem) (below→ s (m * up e * down d) t (n * up d * down e) h))

pub Below→lt : (x y : Float) → T (finite x) → T (finite y) → FloatsBelow x y → T (lt x y)
unfolding lt
Below→lt =
    both_finite (λ x y. FloatsBelow x y → T (lt x y))
    (λ s m e t n d h. →below s (m * up e * down d) t (n * up d * down e) (simp (plus_times_lem, minus_times_lem) at h))

-- ---- inequalities between products: multiply out, then `omega`

pub ruleset ring = (mul-add, add-mul, mul_assoc, mul_comm, mul_left_comm)

pub at_most_trans : (p n d p' n' d' p'' n'' d'' : ℕ) → 0 < d' → AtMost p n d p' n' d' → AtMost p' n' d' p'' n'' d'' → AtMost p n d p'' n'' d''
at_most_trans p n d p' n' d' p'' n'' d'' D h k =
    let a : (p * d' + n' * d) * d'' ≤ (p' * d + n * d') * d'' = mul-le-mul_right d'' h in
    let b : (p' * d'' + n'' * d') * d ≤ (p'' * d' + n' * d'') * d = mul-le-mul_right d k in
    let c : (p * d'' + n'' * d) * d' ≤ (p'' * d + n * d'') * d' = simp ring (omega (arith, simp ring at a, simp ring at b)) in
    le_of_mul-le-mul_right c D

-- ---- two values known over one denominator

value_parts : (x : Float) (s : Bool) (a c : ℕ) → HasValue x s a c → (plus_part x * c ≡ plus_of s a * den x) × (minus_part x * c ≡ minus_of s a * den x)
value_parts nan s a c h = absurd h
value_parts (inf t) s a c h = absurd h
value_parts (fin t m e) s a c h = go t s h.0
  where
    go : (t s : Bool) → t ≡ s → (plus_of t (m * up e) * c ≡ plus_of s a * down e) × (minus_of t (m * up e) * c ≡ minus_of s a * down e)
    go t s k = rw k (simp (plus_times_lem, minus_times_lem) (ap (plus_of s) h.1, ap (minus_of s) h.1))

-- one side of a comparison, brought to the denominator c
side : (p d n d' q m c : ℕ) → p * c ≡ q * d → n * c ≡ m * d' → (p * d' + n * d) * c ≡ (q + m) * (d * d')
side p d n d' q m c e f = simp ring (omega (arith, simp ring at (ap (λ (z : ℕ). z * d') e), simp ring at (ap (λ (z : ℕ). z * d) f)))

module _ (x y : Float) (s t : Bool) (a b c : ℕ) (C : 0 < c) (v : HasValue x s a c) (w : HasValue y t b c) where
  value_finite : T (finite x) × T (finite y)
  value_finite = (go x s a v, go y t b w)
    where
      go : (x : Float) (s : Bool) (a : ℕ) → HasValue x s a c → T (finite x)
      go nan s a v = absurd v
      go (inf t) s a v = absurd v
      go (fin t m e) s a v = tt

  left : (plus_part x * den y + minus_part y * den x) * c ≡ (plus_of s a + minus_of t b) * (den x * den y)
  left = side (plus_part x) (den x) (minus_part y) (den y) (plus_of s a) (minus_of t b) c (value_parts x s a c v).0 (value_parts y t b c w).1

  right : (plus_part y * den x + minus_part x * den y) * c ≡ (plus_of t b + minus_of s a) * (den x * den y)
  right =
      side (plus_part y) (den y) (minus_part x) (den x) (plus_of t b) (minus_of s a) c (value_parts y t b c w).0 (value_parts x s a c v).1
      ∙ ap (λ (z : ℕ). (plus_of t b + minus_of s a) * z) (mul_comm (den y) (den x))

  pub lt→values : T (lt x y) → plus_of s a + minus_of t b < plus_of t b + minus_of s a
  lt→values h = lt_of_mul-lt-mul_right (den x * den y) (rw (left, right) at (mul-lt-mul_of_pos_right (lt→Below x y value_finite.0 value_finite.1 h) C))

  pub values→lt : plus_of s a + minus_of t b < plus_of t b + minus_of s a → T (lt x y)
  values→lt h = Below→lt x y value_finite.0 value_finite.1 (lt_of_mul-lt-mul_right c (rw (left, right) (mul-lt-mul_of_pos_right h (mul-pos (den_pos x) (den_pos y)))))
