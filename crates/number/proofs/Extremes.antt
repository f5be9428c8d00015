-- `minimum` and `maximum` are associative, commutative and idempotent on the values that a format holds, NaN included.
-- So the least and the greatest of a list depend only on which values it has. The greater is no less than a number. Assumes nothing.
use Rattle.std.proofs.Common.{◌≡◌, ◌*◌, Bool, true, false, cond, not, ◌&&◌, ◌||◌, T, ◌⊎◌, sym, refl, ◌∙◌, subst, inl, inr, arith, T_not}
use mathlib.Core.Path.{fun_ext}
use lib.Dec.{not_T}
use lib.Ieee.{Float, nan, inf, fin, Format, up, down, le, lt, eq, is_nan, fits}
use lib.Ieee.Fits.{and_l, and_r, and_i, down_pos}
use Rattle.number.specs.Leaves.{negative, counts_below, minimum, maximum}
use Rattle.number.proofs.Patterns.{one_value}
use Rattle.number.proofs.Fractions.{or_l, or_r, or_split, le→AtMost}
use Rattle.number.proofs.Order.{number, is_number, is_nan_lem, no_nan, lt_le, eq_le, le_split, le_reflexive, le_transitive, lt_not_le, lt_or_le}
use Rattle.number.proofs.Folds.{TotalOrder, Semilattice, lesser, lesser_lattice}

-- ---- x counts no higher than y: y does not count below it

abbrev pub up_to : Float → Float → Bool
up_to x y = not (counts_below y x)

-- what the signs of two equal values say then
abbrev pub signs : Float → Float → Bool
signs x y = negative x || not (negative y)

signs_or : (a b : Bool) → T (a || not b) → T (b && not a) → ⊥
signs_or true b h k = and_r b false k
signs_or false true h k = h
signs_or false false h k = k

or_signs : (a b : Bool) → (T (b && not a) → ⊥) → T (a || not b)
or_signs true b h = tt
or_signs false true h = absurd (h tt)
or_signs false false h = tt

up_to→le : (x y : Float) → T (number x) → T (number y) → T (up_to x y) → T (le x y)
unfolding counts_below
up_to→le x y X Y h = elim (lt_or_le y x Y X) [ inl l ↦ absurd (T_not (counts_below y x) h (or_l (lt y x) _ l)) | inr g ↦ g ]

up_to→signs : (x y : Float) → T (number x) → T (number y) → T (up_to x y) → T (le y x) → T (signs x y)
unfolding counts_below
up_to→signs x y X Y h k = elim (le_split y x k) [
  | inl l ↦ absurd (lt_not_le y x l (up_to→le x y X Y h))
  | inr e ↦ or_signs (negative x) (negative y) (λ n. T_not (counts_below y x) h (or_r (lt y x) _ (and_i (eq y x) _ e n)))
]

pub →up_to : (x y : Float) → T (le x y) → (T (le y x) → T (signs x y)) → T (up_to x y)
unfolding counts_below
→up_to x y h k = not_T (counts_below y x) (λ b. elim (or_split (lt y x) (eq y x && (negative y && not (negative x))) b) [
  | inl l ↦ lt_not_le y x l h
  | inr u ↦ signs_or (negative x) (negative y) (k (eq_le y x (and_l (eq y x) (negative y && not (negative x)) u))) (and_r (eq y x) (negative y && not (negative x)) u)
])

signs_trans : (x y z : Float) → T (signs x y) → T (signs y z) → T (signs x z)
signs_trans x y z = go (negative x) (negative y) (negative z)
  where
    go : (a b c : Bool) → T (a || not b) → T (b || not c) → T (a || not c)
    go true b c h k = tt
    go false true c h k = absurd h
    go false false c h k = k

signs_total : (x y : Float) → T (signs x y) ⊎ T (signs y x)
signs_total x y = go (negative x) (negative y)
  where
    go : (a b : Bool) → T (a || not b) ⊎ T (b || not a)
    go true b = inl tt
    go false true = inr tt
    go false false = inl tt

up_to_trans : (x y z : Float) → T (number x) → T (number y) → T (number z) → T (up_to x y) → T (up_to y z) → T (up_to x z)
up_to_trans x y z X Y Z h k =
    let xy = up_to→le x y X Y h in
    let yz = up_to→le y z Y Z k in
    →up_to x z (le_transitive x y z xy yz) (λ zx. signs_trans x y z (up_to→signs x y X Y h (le_transitive y z x yz zx)) (up_to→signs y z Y Z k (le_transitive z x y zx xy)))

up_to_total : (x y : Float) → T (number x) → T (number y) → T (up_to x y) ⊎ T (up_to y x)
up_to_total x y X Y = elim (lt_or_le x y X Y) [
  | inl l ↦ inl (→up_to x y (lt_le x y l) (λ g. absurd (lt_not_le x y l g)))
  | inr yx ↦ elim (lt_or_le y x Y X) [
    | inl l ↦ inr (→up_to y x (lt_le y x l) (λ g. absurd (lt_not_le y x l g)))
    | inr xy ↦ elim (signs_total x y) [ inl s ↦ inl (→up_to x y xy (λ g. s)) | inr s ↦ inr (→up_to y x yx (λ g. s)) ]
  ]
]

-- values that fit, equal in size and in sign, are the same
pub same_value : (f : Format) (x y : Float) → T (fits f x) → T (fits f y) → T (le x y) → T (le y x) → T (signs x y) → T (signs y x) → x ≡ y
unfolding le negative
same_value f nan y F G h k s t = absurd h
same_value f (inf u) nan F G h k s t = absurd h
same_value f (inf true) (inf true) F G h k s t = refl
same_value f (inf true) (inf false) F G h k s t = absurd k
same_value f (inf false) (inf true) F G h k s t = absurd h
same_value f (inf false) (inf false) F G h k s t = refl
same_value f (inf true) (fin v n d) F G h k s t = absurd k
same_value f (inf false) (fin v n d) F G h k s t = absurd h
same_value f (fin u m e) nan F G h k s t = absurd h
same_value f (fin u m e) (inf true) F G h k s t = absurd h
same_value f (fin u m e) (inf false) F G h k s t = absurd k
same_value f (fin true m e) (fin true n d) F G h k s t =
    let x = fin true m e in
    let y = fin true n d in
    one_value f x y true (m * up e) (down e) (down_pos e) F G (refl, refl) (refl, omega (arith, le→AtMost x y tt tt h, le→AtMost y x tt tt k))
same_value f (fin true m e) (fin false n d) F G h k s t = absurd t
same_value f (fin false m e) (fin true n d) F G h k s t = absurd s
same_value f (fin false m e) (fin false n d) F G h k s t =
    let x = fin false m e in
    let y = fin false n d in
    one_value f x y false (m * up e) (down e) (down_pos e) F G (refl, refl) (refl, omega (arith, le→AtMost x y tt tt h, le→AtMost y x tt tt k))

up_to_anti : (f : Format) (x y : Float) → T (number x) → T (number y) → T (fits f x) → T (fits f y) → T (up_to x y) → T (up_to y x) → x ≡ y
up_to_anti f x y X Y F G h k =
    let xy = up_to→le x y X Y h in
    let yx = up_to→le y x Y X k in
    same_value f x y F G xy yx (up_to→signs x y X Y h yx) (up_to→signs y x Y X k xy)

-- ---- with NaN after all numbers an order on numbers is one on all values

abbrev nan_last : (Float → Float → Bool) → Float → Float → Bool
nan_last R x y = is_nan y || (not (is_nan x) && R x y)

abbrev pub Fits : Format → Float → Type 0
Fits f x = T (fits f x)

module _ (f : Format) (R : Float → Float → Bool)
    (total : (x y : Float) → T (number x) → T (number y) → T (R x y) ⊎ T (R y x))
    (trans : (x y z : Float) → T (number x) → T (number y) → T (number z) → T (R x y) → T (R y z) → T (R x z))
    (anti : (x y : Float) → T (number x) → T (number y) → T (fits f x) → T (fits f y) → T (R x y) → T (R y x) → x ≡ y) where
  nan_total : (x y : Float) (a b : Bool) → (T (not a) → T (number x)) → (T (not b) → T (number y)) → T (b || (not a && R x y)) ⊎ T (a || (not b && R y x))
  nan_total x y true b p q = inr tt
  nan_total x y false true p q = inl tt
  nan_total x y false false p q = total x y (p tt) (q tt)

  nan_trans : (x y z : Float) (a b c : Bool) → (T (not a) → T (number x)) → (T (not b) → T (number y)) → (T (not c) → T (number z))
      → T (b || (not a && R x y)) → T (c || (not b && R y z)) → T (c || (not a && R x z))
  nan_trans x y z a b true p q r h k = tt
  nan_trans x y z a true false p q r h k = absurd k
  nan_trans x y z true false false p q r h k = absurd h
  nan_trans x y z false false false p q r h k = trans x y z (p tt) (q tt) (r tt) h k

  nan_anti : (x y : Float) (a b : Bool) → (T (not a) → T (number x)) → (T a → x ≡ nan) → (T (not b) → T (number y)) → (T b → y ≡ nan) → Fits f x → Fits f y
      → T (b || (not a && R x y)) → T (a || (not b && R y x)) → x ≡ y
  nan_anti x y true true p u q v F G h k = u tt ∙ sym (v tt)
  nan_anti x y true false p u q v F G h k = absurd h
  nan_anti x y false true p u q v F G h k = absurd k
  nan_anti x y false false p u q v F G h k = anti x y (p tt) (q tt) F G h k

  nan_last_lem : TotalOrder (Fits f) (nan_last R)
  nan_last_lem = record {
    total = λ x y F G. nan_total x y (is_nan x) (is_nan y) (is_number x) (is_number y);
    trans = λ x y z F G H. nan_trans x y z (is_nan x) (is_nan y) (is_nan z) (is_number x) (is_number y) (is_number z);
    anti = λ x y F G. nan_anti x y (is_nan x) (is_nan y) (is_number x) (is_nan_lem x) (is_number y) (is_nan_lem y) F G;
  }

-- ---- the lesser by that order is `minimum`, and by the order turned round `maximum`

picked : (x y : Float) (a b c : Bool) → (T a → x ≡ nan) → (T b → y ≡ nan) → cond a y (cond b x (cond c y x)) ≡ cond (b || (not a && not c)) x y
picked x y true true c p q = q tt ∙ sym (p tt)
picked x y true false c p q = refl
picked x y false true c p q = refl
picked x y false false true p q = refl
picked x y false false false p q = refl

minimum_is : (x y : Float) → minimum x y ≡ lesser (nan_last up_to) x y
unfolding minimum
minimum_is x y = picked x y (is_nan x) (is_nan y) (counts_below y x) (is_nan_lem x) (is_nan_lem y)

maximum_is : (x y : Float) → maximum x y ≡ lesser (nan_last (λ a b. up_to b a)) x y
unfolding maximum
maximum_is x y = picked x y (is_nan x) (is_nan y) (counts_below x y) (is_nan_lem x) (is_nan_lem y)

pub minimum_lattice : (f : Format) → Semilattice (Fits f) minimum
minimum_lattice f =
    subst (λ (o : Float → Float → Float). Semilattice (Fits f) o) (fun_ext (λ x. fun_ext (λ y. sym (minimum_is x y))))
    (lesser_lattice (Fits f) (nan_last up_to) (nan_last_lem f up_to up_to_total up_to_trans (up_to_anti f)))

pub maximum_lattice : (f : Format) → Semilattice (Fits f) maximum
maximum_lattice f =
    subst (λ (o : Float → Float → Float). Semilattice (Fits f) o) (fun_ext (λ x. fun_ext (λ y. sym (maximum_is x y))))
    (lesser_lattice (Fits f) (nan_last (λ a b. up_to b a))
    (nan_last_lem f (λ a b. up_to b a) (λ x y X Y. up_to_total y x Y X) (λ x y z X Y Z h k. up_to_trans z y x Z Y X k h) (λ x y X Y F G h k. up_to_anti f x y X Y F G k h)))

-- the greater is no less than the first, which is a number
pub maximum_ge : (x y : Float) → T (number x) → T (le x (maximum x y))
unfolding maximum counts_below
maximum_ge x y X = rw (no_nan x X) (go (is_nan y) (counts_below x y) (λ t. t))
  where
    go : (n b : Bool) → (T b → T (counts_below x y)) → T (le x (cond n x (cond b y x)))
    go true b h = le_reflexive x X
    go false false h = le_reflexive x X
    go false true h = elim (or_split (lt x y) (eq x y && (negative x && not (negative y))) (h tt)) [
      | inl l ↦ lt_le x y l
      | inr e ↦ eq_le x y (and_l (eq x y) (negative x && not (negative y)) e)
    ]
