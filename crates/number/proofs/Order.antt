-- The order of values, which needs no format: `le` is reflexive off NaN, transitive and total, with the infinities at its ends;
-- `lt` is what `le` the other way round excludes; and what lies between finite values is finite. Assumes nothing.
use Rattle.std.proofs.Common.{◌≡◌, ℕ, ◌+◌, ◌*◌, ◌<◌, ◌≤◌, Bool, true, false, not, T, ltb, ◌⊎◌, ℤ, pos, sym, refl, subst, inl, inr, le_of_eq, arith, ltb→lt, nltb→le}
use mathlib.Core.Bool.{beq}
use lib.Ieee.{Float, nan, inf, fin, up, down, neg, le, lt, eq, is_nan}
use lib.Ieee.Scale.{finite}
use lib.Ieee.Positive.{den, den_pos}
use Rattle.number.proofs.Fractions.{or_l, or_r, or_split, plus_of, minus_of, plus_part, minus_part}
use Rattle.number.proofs.Fractions.{level→, at_most→, →at_most, le→AtMost, AtMost→le, lt→Below, Below→lt, at_most_trans}

-- ---- what a test's answer says

pub holds : {b : Bool} → b ≡ true → T b
holds {b} e = subst T (sym e) tt

pub fails : {b : Bool} → b ≡ false → T b → ⊥
fails {b} e t = subst T e t

-- ---- numbers

-- an infinity or finite
abbrev pub number : Float → Bool
number nan = false
number (inf s) = true
number (fin s m e) = true

pub is_number : (x : Float) → T (not (is_nan x)) → T (number x)
unfolding is_nan
is_number nan h = absurd h
is_number (inf s) h = tt
is_number (fin s m e) h = tt

pub is_nan_lem : (x : Float) → T (is_nan x) → x ≡ nan
unfolding is_nan
is_nan_lem nan h = refl
is_nan_lem (inf s) h = absurd h
is_nan_lem (fin s m e) h = absurd h

pub no_nan : (x : Float) → T (number x) → is_nan x ≡ false
unfolding is_nan
no_nan nan h = absurd h
no_nan (inf s) h = refl
no_nan (fin s m e) h = refl

pub not_nan : (x : Float) → T (number x) → T (not (is_nan x))
not_nan x h = rw (no_nan x h) tt

-- +0
abbrev pub nought : Float
nought = fin false 0 (pos 0)

pub finite_number : (x : Float) → T (finite x) → T (number x)
finite_number nan h = absurd h
finite_number (inf s) h = absurd h
finite_number (fin s m e) h = tt

-- ---- `lt`, `eq` and `le`

pub lt_le : (x y : Float) → T (lt x y) → T (le x y)
unfolding le
lt_le x y h = or_l (lt x y) (eq x y) h

pub eq_le : (x y : Float) → T (eq x y) → T (le x y)
unfolding le
eq_le x y h = or_r (lt x y) (eq x y) h

pub le_split : (x y : Float) → T (le x y) → T (lt x y) ⊎ T (eq x y)
unfolding le
le_split x y h = or_split (lt x y) (eq x y) h

pub le_number : (x y : Float) → T (le x y) → T (number x) × T (number y)
unfolding le
le_number nan y h = absurd h
le_number (inf s) nan h = absurd h
le_number (inf s) (inf t) h = (tt, tt)
le_number (inf s) (fin t n d) h = (tt, tt)
le_number (fin s m e) nan h = absurd h
le_number (fin s m e) (inf t) h = (tt, tt)
le_number (fin s m e) (fin t n d) h = (tt, tt)

pub lt_number : (x y : Float) → T (lt x y) → T (number x) × T (number y)
lt_number x y h = le_number x y (lt_le x y h)

-- ---- the infinities

pub least : (x : Float) → T (number x) → T (le (inf true) x)
unfolding le
least nan n = absurd n
least (inf true) n = tt
least (inf false) n = tt
least (fin s m e) n = tt

pub greatest : (x : Float) → T (number x) → T (le x (inf false))
unfolding le
greatest nan n = absurd n
greatest (inf true) n = tt
greatest (inf false) n = tt
greatest (fin s m e) n = tt

pub not_infinite : (s : Bool) (m : ℕ) (e : ℤ) (t : Bool) → fin s m e ≡ inf t → ⊥
not_infinite s m e t h = subst (λ (x : Float). T (finite x)) h tt

-- only an infinity is no more than -infinity, or no less than +infinity
pub no_less : (x : Float) → T (le x (inf true)) → x ≡ inf true
unfolding le
no_less nan h = absurd h
no_less (inf true) h = refl
no_less (inf false) h = absurd h
no_less (fin s m e) h = absurd h

pub no_more : (x : Float) → T (le (inf false) x) → x ≡ inf false
unfolding le
no_more nan h = absurd h
no_more (inf true) h = absurd h
no_more (inf false) h = refl
no_more (fin s m e) h = absurd h

-- ---- a total order off NaN

pub le_reflexive : (x : Float) → T (number x) → T (le x x)
unfolding le
le_reflexive nan n = absurd n
le_reflexive (inf true) n = tt
le_reflexive (inf false) n = tt
le_reflexive (fin s m e) n = AtMost→le (fin s m e) (fin s m e) tt tt (le_of_eq refl)

pub le_transitive : (x y z : Float) → T (le x y) → T (le y z) → T (le x z)
le_transitive nan y z h k = absurd (le_number nan y h).0
le_transitive (inf true) y z h k = least z (le_number y z k).1
le_transitive (inf false) y z h k = subst (λ (w : Float). T (le w z)) (no_more y h) k
le_transitive (fin s m e) nan z h k = absurd (le_number nan z k).0
le_transitive (fin s m e) (inf true) z h k = absurd (not_infinite s m e true (no_less (fin s m e) h))
le_transitive (fin s m e) (inf false) z h k = subst (λ (w : Float). T (le (fin s m e) w)) (sym (no_more z k)) h
le_transitive (fin s m e) (fin t n d) nan h k = absurd (le_number (fin t n d) nan k).1
le_transitive (fin s m e) (fin t n d) (inf true) h k = absurd (not_infinite t n d true (no_less (fin t n d) k))
le_transitive (fin s m e) (fin t n d) (inf false) h k = greatest (fin s m e) tt
le_transitive (fin s m e) (fin t n d) (fin u l c) h k =
    let x = fin s m e in
    let y = fin t n d in
    let z = fin u l c in
    AtMost→le x z tt tt
    (at_most_trans (plus_part x) (minus_part x) (den x) (plus_part y) (minus_part y) (den y) (plus_part z) (minus_part z) (den z)
    (den_pos y) (le→AtMost x y tt tt h) (le→AtMost y z tt tt k))

-- x < y and y ≤ x exclude one another, and of two numbers one of them holds
pub lt_not_le : (x y : Float) → T (lt x y) → T (le y x) → ⊥
unfolding lt le
lt_not_le nan y h k = h
lt_not_le (inf s) nan h k = h
lt_not_le (inf true) (inf true) h k = h
lt_not_le (inf true) (inf false) h k = k
lt_not_le (inf false) (inf t) h k = h
lt_not_le (inf true) (fin t n d) h k = k
lt_not_le (inf false) (fin t n d) h k = h
lt_not_le (fin s m e) nan h k = h
lt_not_le (fin s m e) (inf true) h k = h
lt_not_le (fin s m e) (inf false) h k = k
lt_not_le (fin s m e) (fin t n d) h k =
    let a = lt→Below (fin s m e) (fin t n d) tt tt h in
    let b = le→AtMost (fin t n d) (fin s m e) tt tt k in
    omega arith

pub less_or_not : (a b : ℕ) → (a < b) ⊎ (b ≤ a)
less_or_not a b = go (ltb a b) (ltb→lt a b) (nltb→le a b)
  where
    go : (c : Bool) → (T c → a < b) → (T (not c) → b ≤ a) → (a < b) ⊎ (b ≤ a)
    go true l g = inl (l tt)
    go false l g = inr (g tt)

pub lt_or_le : (x y : Float) → T (number x) → T (number y) → T (lt x y) ⊎ T (le y x)
unfolding lt
lt_or_le nan y p q = absurd p
lt_or_le (inf s) nan p q = absurd q
lt_or_le (inf true) (inf true) p q = inr (least (inf true) tt)
lt_or_le (inf true) (inf false) p q = inl tt
lt_or_le (inf false) (inf t) p q = inr (greatest (inf t) tt)
lt_or_le (inf true) (fin t n d) p q = inl tt
lt_or_le (inf false) (fin t n d) p q = inr (greatest (fin t n d) tt)
lt_or_le (fin s m e) nan p q = absurd q
lt_or_le (fin s m e) (inf true) p q = inr (least (fin s m e) tt)
lt_or_le (fin s m e) (inf false) p q = inl tt
lt_or_le (fin s m e) (fin t n d) p q =
    let x = fin s m e in
    let y = fin t n d in
    elim (less_or_not (plus_part x * den y + minus_part y * den x) (plus_part y * den x + minus_part x * den y)) [
      | inl l ↦ inl (Below→lt x y tt tt l)
      | inr g ↦ inr (AtMost→le y x tt tt g)
    ]

pub le_total : (x y : Float) → T (number x) → T (number y) → T (le x y) ⊎ T (le y x)
le_total x y p q = elim (lt_or_le x y p q) [ inl l ↦ inl (lt_le x y l) | inr g ↦ inr g ]

pub lt_le_transitive : (x y z : Float) → T (lt x y) → T (le y z) → T (lt x z)
lt_le_transitive x y z h k = elim (lt_or_le x z (lt_number x y h).0 (le_number y z k).1) [ inl l ↦ l | inr g ↦ absurd (lt_not_le x y h (le_transitive y z x k g)) ]

pub le_lt_transitive : (x y z : Float) → T (le x y) → T (lt y z) → T (lt x z)
le_lt_transitive x y z h k = elim (lt_or_le x z (le_number x y h).0 (lt_number y z k).1) [ inl l ↦ l | inr g ↦ absurd (lt_not_le y z k (le_transitive z x y g h)) ]

-- equal values are each no more than the other
pub eq_ge : (x y : Float) → T (eq x y) → T (le y x)
unfolding eq le
eq_ge nan y h = absurd h
eq_ge (inf s) nan h = absurd h
eq_ge (inf true) (inf true) h = tt
eq_ge (inf true) (inf false) h = absurd h
eq_ge (inf false) (inf true) h = absurd h
eq_ge (inf false) (inf false) h = tt
eq_ge (inf s) (fin t n d) h = absurd h
eq_ge (fin s m e) nan h = absurd h
eq_ge (fin s m e) (inf t) h = absurd h
eq_ge (fin s m e) (fin t n d) h = →at_most t (n * up d * down e) s (m * up e * down d) (omega (arith, level→ s (m * up e * down d) t (n * up d * down e) h))

pub le_antisymmetric : (x y : Float) → T (le x y) → T (le y x) → T (eq x y)
le_antisymmetric x y h k = elim (le_split x y h) [ inl l ↦ absurd (lt_not_le x y l k) | inr e ↦ e ]

pub eq_symmetric : (x y : Float) → T (eq x y) → T (eq y x)
eq_symmetric x y h = le_antisymmetric y x (eq_ge x y h) (eq_le x y h)

-- of two numbers one is less, or they are equal
pub unordered : (x y : Float) → T (number x) → T (number y) → (T (lt x y) → ⊥) → (T (lt y x) → ⊥) → (T (eq x y) → ⊥) → ⊥
unordered x y X Y l g n = elim (lt_or_le y x Y X) [ inl k ↦ g k | inr h ↦ elim (le_split x y h) [ inl k ↦ l k | inr e ↦ n e ] ]

-- ---- the sign

-- a number with the sign s
abbrev pub signed : Bool → Float → Bool
signed s nan = false
signed s (inf t) = beq s t
signed s (fin t m e) = beq s t

pub below_zero : (x y : Float) → T (signed true x) → T (signed false y) → T (le x y)
unfolding le
below_zero nan y p q = absurd p
below_zero (inf false) y p q = absurd p
below_zero (inf true) nan p q = absurd q
below_zero (inf true) (inf true) p q = absurd q
below_zero (inf true) (inf false) p q = tt
below_zero (inf true) (fin t n d) p q = tt
below_zero (fin false m e) y p q = absurd p
below_zero (fin true m e) nan p q = absurd q
below_zero (fin true m e) (inf true) p q = absurd q
below_zero (fin true m e) (inf false) p q = tt
below_zero (fin true m e) (fin true n d) p q = absurd q
below_zero (fin true m e) (fin false n d) p q = →at_most true (m * up e * down d) false (n * up d * down e) (omega arith)

-- ---- `neg` turns the order round

mirror : (s : Bool) (a : ℕ) (t : Bool) (b : ℕ) → plus_of s a + minus_of t b ≤ plus_of t b + minus_of s a → plus_of (not t) b + minus_of (not s) a ≤ plus_of (not s) a + minus_of (not t) b
mirror true a true b h = omega arith
mirror true a false b h = omega arith
mirror false a true b h = omega arith
mirror false a false b h = omega arith

pub le_neg : (x y : Float) → T (le x y) → T (le (neg y) (neg x))
unfolding le neg
le_neg nan y h = absurd h
le_neg (inf s) nan h = absurd h
le_neg (inf true) (inf true) h = tt
le_neg (inf true) (inf false) h = tt
le_neg (inf false) (inf true) h = absurd h
le_neg (inf false) (inf false) h = tt
le_neg (inf true) (fin t n d) h = tt
le_neg (inf false) (fin t n d) h = absurd h
le_neg (fin s m e) nan h = absurd h
le_neg (fin s m e) (inf true) h = absurd h
le_neg (fin s m e) (inf false) h = tt
le_neg (fin s m e) (fin t n d) h =
    →at_most (not t) (n * up d * down e) (not s) (m * up e * down d) (mirror s (m * up e * down d) t (n * up d * down e) (at_most→ s (m * up e * down d) t (n * up d * down e) h))

neg_neg : (x : Float) → neg (neg x) ≡ x
unfolding neg
neg_neg nan = refl
neg_neg (inf true) = refl
neg_neg (inf false) = refl
neg_neg (fin true m e) = refl
neg_neg (fin false m e) = refl

pub le_neg_back : (x y : Float) → T (le (neg x) (neg y)) → T (le y x)
le_neg_back x y h = rw (neg_neg y, neg_neg x) at (le_neg (neg x) (neg y) h)

pub neg_number : (x : Float) → T (number x) → T (number (neg x))
unfolding neg
neg_number nan h = absurd h
neg_number (inf s) h = tt
neg_number (fin s m e) h = tt

pub neg_finite : (x : Float) → T (finite x) → T (finite (neg x))
unfolding neg
neg_finite nan h = absurd h
neg_finite (inf s) h = absurd h
neg_finite (fin s m e) h = tt

pub finite_neg : (x : Float) → T (finite (neg x)) → T (finite x)
unfolding neg
finite_neg nan h = absurd h
finite_neg (inf s) h = absurd h
finite_neg (fin s m e) h = tt

pub lt_neg : (x y : Float) → T (lt x y) → T (lt (neg y) (neg x))
lt_neg x y h =
    let n = lt_number x y h in
    elim (lt_or_le (neg y) (neg x) (neg_number y n.1) (neg_number x n.0)) [ inl l ↦ l | inr g ↦ absurd (lt_not_le x y h (le_neg_back x y g)) ]

-- ---- what lies between two finite values is finite

pub between_finite : (x y z : Float) → T (finite x) → T (finite z) → T (le x y) → T (le y z) → T (finite y)
between_finite x nan z a c h k = (le_number nan z k).0
between_finite x (inf true) z a c h k = subst (λ (w : Float). T (finite w)) (no_less x h) a
between_finite x (inf false) z a c h k = subst (λ (w : Float). T (finite w)) (no_more z k) c
between_finite x (fin t n d) z a c h k = tt

-- what lies strictly between any two is finite
pub strictly_finite : (x y z : Float) → T (lt x y) → T (lt y z) → T (finite y)
strictly_finite x nan z h k = (lt_number nan z k).0
strictly_finite x (inf true) z h k = lt_not_le x (inf true) h (least x (lt_number x (inf true) h).0)
strictly_finite x (inf false) z h k = lt_not_le (inf false) z k (greatest z (lt_number (inf false) z k).1)
strictly_finite x (fin t n d) z h k = tt
