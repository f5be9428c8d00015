-- When equal values are the same, and which of its operands `minimum` or `maximum` is, by the tests that tell:
-- less, greater, equal with a sign, or a NaN on either side. Assumes nothing.
use Rattle.std.proofs.Common.{◌≡◌, ℕ, ◌*◌, ◌≤◌, Bool, true, false, cond, not, ◌&&◌, ◌||◌, T, ℤ, sym, refl, ap, ◌∙◌, le_of_mul-le-mul_right, arith}
use lib.Ieee.{Float, nan, inf, fin, Format, up, down, lt, eq, is_nan, fits}
use lib.Ieee.Fits.{down_pos}
use lib.Ieee.Bits.{is_true, is_false}
use Rattle.number.specs.Leaves.{negative, counts_below, minimum, maximum}
use Rattle.number.proofs.Order.{holds, fails, number, nought, is_number, no_nan, unordered}
use Rattle.number.proofs.Order.{lt_le, eq_le, eq_ge, eq_symmetric, le_number, lt_number, lt_not_le, le_antisymmetric}
use Rattle.number.proofs.Fractions.{plus_of, minus_of, AtMost, le→AtMost, AtMost→le}
use Rattle.number.proofs.Extremes.{→up_to, same_value}

-- y counts first, or it does not
abbrev chosen : Float → Float → Bool → Float
chosen x y b = cond (is_nan x) y (cond (is_nan y) x (cond b y x))

first : (x y : Float) (b : Bool) → T (number x) → b ≡ false → x ≡ chosen x y b
first x y b X e = rw (no_nan x X, e) (go (is_nan y))
  where
    go : (c : Bool) → x ≡ cond c x x
    go true = refl
    go false = refl

second : (x y : Float) (b : Bool) → T (number x) → T (number y) → b ≡ true → y ≡ chosen x y b
second x y b X Y e = rw (no_nan x X, no_nan y Y, e)

below_yes : (x y : Float) → lt x y ≡ true → counts_below x y ≡ true
unfolding counts_below
below_yes x y h = rw h

below_no : (x y : Float) → lt x y ≡ true → counts_below y x ≡ false
below_no x y h = let l = holds h in is_false (counts_below y x) (→up_to x y (lt_le x y l) (λ g. absurd (lt_not_le x y l g)))

-- of equal values the first counts below where it is negative and the second is not
below_equal : (x y : Float) → eq x y ≡ true → counts_below x y ≡ (negative x && not (negative y))
unfolding counts_below
below_equal x y h = rw (not_less_lem (lt x y) (λ l. lt_not_le x y l (eq_ge x y (holds h))), h)
  where
    not_less_lem : (b : Bool) → (T b → ⊥) → b ≡ false
    not_less_lem true n = absurd (n tt)
    not_less_lem false n = refl

-- equal values of one sign are the same
equal : (f : Format) (x y : Float) → T (fits f x) → T (fits f y) → eq x y ≡ true → negative x ≡ negative y → x ≡ y
equal f x y F G h s =
    let e = holds h in
    same_value f x y F G (eq_le x y e) (eq_ge x y e) (rw s (self (negative y))) (rw s (self (negative y)))
  where
    self : (b : Bool) → T (b || not b)
    self true = tt
    self false = tt

-- a finite value of size zero is a zero
nothing : (s : Bool) (m : ℕ) (e : ℤ) → m * up e ≤ 0 → T (eq (fin s m e) nought)
nothing s m e h = le_antisymmetric (fin s m e) nought (AtMost→le (fin s m e) nought tt tt (rest s).0) (AtMost→le nought (fin s m e) tt tt (rest s).1)
  where
    rest : (s : Bool) → AtMost (plus_of s (m * up e)) (minus_of s (m * up e)) (down e) 0 0 1 × AtMost 0 0 1 (plus_of s (m * up e)) (minus_of s (m * up e)) (down e)
    rest true = (omega (arith, h), omega (arith, h))
    rest false = (omega (arith, h), omega (arith, h))

-- equal values that are no zeros have one sign
one_sign : (x y : Float) → T (eq x y) → (T (eq x nought) → ⊥) → negative x ≡ negative y
unfolding negative
one_sign nan y h n = absurd (unfold eq in h)
one_sign (inf s) nan h n = absurd (unfold eq in h)
one_sign (inf true) (inf true) h n = refl
one_sign (inf true) (inf false) h n = absurd (unfold eq in h)
one_sign (inf false) (inf true) h n = absurd (unfold eq in h)
one_sign (inf false) (inf false) h n = refl
one_sign (inf s) (fin t k d) h n = absurd (unfold eq in h)
one_sign (fin s m e) nan h n = absurd (unfold eq in h)
one_sign (fin s m e) (inf t) h n = absurd (unfold eq in h)
one_sign (fin true m e) (fin true k d) h n = refl
one_sign (fin true m e) (fin false k d) h n =
    let upto = le→AtMost (fin false k d) (fin true m e) tt tt (eq_ge (fin true m e) (fin false k d) h) in
    absurd (n (nothing true m e (le_of_mul-le-mul_right {k = down d} (omega (arith, upto)) (down_pos d))))
one_sign (fin false m e) (fin true k d) h n =
    let upto = le→AtMost (fin false m e) (fin true k d) tt tt (eq_le (fin false m e) (fin true k d) h) in
    absurd (n (nothing false m e (le_of_mul-le-mul_right {k = down d} (omega (arith, upto)) (down_pos d))))
one_sign (fin false m e) (fin false k d) h n = refl

pub equal_but_zero : (f : Format) (x y : Float) → T (fits f x) → T (fits f y) → T (eq x y) → (T (eq x nought) → ⊥) → x ≡ y
equal_but_zero f x y F G e n = equal f x y F G (is_true (eq x y) e) (one_sign x y e n)

equal_second : (f : Format) (x y : Float) (b : Bool) → T (fits f x) → T (fits f y) → eq x y ≡ true → (b ≡ false → negative x ≡ negative y) → y ≡ chosen x y b
equal_second f x y true F G h s = let n = le_number x y (eq_le x y (holds h)) in second x y true n.0 n.1 refl
equal_second f x y false F G h s = let n = le_number x y (eq_le x y (holds h)) in sym (equal f x y F G h (s refl)) ∙ first x y false n.0 refl

second_nan : (x y : Float) → T (number x) → lt x y ≡ false → lt y x ≡ false → eq x y ≡ false → T (is_nan y)
second_nan x y X l g n = go (is_nan y) (is_number y)
  where
    go : (b : Bool) → (T (not b) → T (number y)) → T b
    go true h = tt
    go false h = absurd (unordered x y X (h tt) (fails l) (fails g) (fails n))

-- neither less nor equal: one of the two is a NaN, and the other one is chosen
beside : (x y : Float) (b : Bool) → lt x y ≡ false → lt y x ≡ false → eq x y ≡ false → cond (is_nan x) y x ≡ chosen x y b
beside x y b l g n = go (is_nan x) (is_number x)
  where
    go : (c : Bool) → (T (not c) → T (number x)) → cond c y x ≡ cond c y (cond (is_nan y) x (cond b y x))
    go true h = refl
    go false h = rw (is_true (is_nan y) (second_nan x y (h tt) l g n))

-- ---- the lesser and the greater

and_false : (b : Bool) → b && false ≡ false
and_false true = refl
and_false false = refl

and_true : (b : Bool) → b && true ≡ false → b ≡ false
and_true true k = k
and_true false k = refl

pub minimum_less : (x y : Float) → lt x y ≡ true → x ≡ minimum x y
unfolding minimum
minimum_less x y h = first x y (counts_below y x) (lt_number x y (holds h)).0 (below_no x y h)

pub minimum_more : (x y : Float) → lt y x ≡ true → y ≡ minimum x y
unfolding minimum
minimum_more x y h = let n = lt_number y x (holds h) in second x y (counts_below y x) n.1 n.0 (below_yes y x h)

pub minimum_negative : (x y : Float) → eq x y ≡ true → negative x ≡ true → x ≡ minimum x y
unfolding minimum
minimum_negative x y h s =
    let not_below : counts_below y x ≡ false = below_equal y x (is_true (eq y x) (eq_symmetric x y (holds h))) ∙ rw s (and_false (negative y)) in
    first x y (counts_below y x) (le_number x y (eq_le x y (holds h))).0 not_below

pub minimum_other : (f : Format) (x y : Float) → T (fits f x) → T (fits f y) → eq x y ≡ true → negative x ≡ false → y ≡ minimum x y
unfolding minimum
minimum_other f x y F G h s =
    equal_second f x y (counts_below y x) F G h
    (λ n. s ∙ sym (and_true (negative y) (rw s at (sym (below_equal y x (is_true (eq y x) (eq_symmetric x y (holds h)))) ∙ n))))

pub minimum_nan : (x y : Float) → lt x y ≡ false → lt y x ≡ false → eq x y ≡ false → cond (is_nan x) y x ≡ minimum x y
unfolding minimum
minimum_nan x y l g n = beside x y (counts_below y x) l g n

pub maximum_less : (x y : Float) → lt y x ≡ true → x ≡ maximum x y
unfolding maximum
maximum_less x y h = first x y (counts_below x y) (lt_number y x (holds h)).1 (below_no y x h)

pub maximum_more : (x y : Float) → lt x y ≡ true → y ≡ maximum x y
unfolding maximum
maximum_more x y h = let n = lt_number x y (holds h) in second x y (counts_below x y) n.0 n.1 (below_yes x y h)

pub maximum_negative : (x y : Float) → eq x y ≡ true → negative y ≡ true → x ≡ maximum x y
unfolding maximum
maximum_negative x y h s = first x y (counts_below x y) (le_number x y (eq_le x y (holds h))).0 (below_equal x y h ∙ rw s (and_false (negative x)))

pub maximum_other : (f : Format) (x y : Float) → T (fits f x) → T (fits f y) → eq x y ≡ true → negative y ≡ false → y ≡ maximum x y
unfolding maximum
maximum_other f x y F G h s = equal_second f x y (counts_below x y) F G h (λ n. and_true (negative x) (rw s at (sym (below_equal x y h) ∙ n)) ∙ sym s)

pub maximum_nan : (x y : Float) → lt x y ≡ false → lt y x ≡ false → eq x y ≡ false → cond (is_nan x) y x ≡ maximum x y
unfolding maximum
maximum_nan x y l g n = beside x y (counts_below x y) l g n

-- the second, a number without a sign, unless the first is above it
pub maximum_kept : (f : Format) (x y : Float) → T (fits f x) → T (fits f y) → T (number y) → negative y ≡ false → lt y x ≡ false → y ≡ maximum x y
maximum_kept f x y F G Y n l = go (lt x y) (eq x y) refl refl
  where
    turned : (b : Bool) → (T b → T (eq x y)) → eq x y ≡ false → b ≡ false
    turned true h i = absurd (fails i (h tt))
    turned false h i = refl

    go : (a b : Bool) → lt x y ≡ a → eq x y ≡ b → y ≡ maximum x y
    go true b h i = maximum_more x y h
    go false true h i = maximum_other f x y F G i n
    go false false h i =
        ap (λ (t : Bool). cond t y x) (sym (is_true (is_nan x) (second_nan y x Y l h (turned (eq y x) (eq_symmetric y x) i)))) ∙ maximum_nan x y h l i
