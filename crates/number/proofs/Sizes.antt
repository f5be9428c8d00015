-- What the tests of one value's size say. What is finite, taken from itself, leaves zero. The absolute value is the greater of
-- the value and of what it leaves of +0. The whole part is 0 below 1, and 2 ^ w - 1 from 2 ^ w up. Assumes nothing.
use Rattle.std.proofs.Common.{◌≡◌, ℕ, zero, suc, ◌+◌, ◌-◌, ◌*◌, ◌<◌, Bool, true, false, not, ◌&&◌, T, ℤ, pos, sym, refl, ap, ◌∙◌, inl, inr, true≢false, zero-lt-suc, mul-pos, one-mul, zero-add, zero-mul, mul-one, arith}
use mathlib.Core.Bool.{false≢true}
use lib.Ieee.{Float, nan, inf, fin, Format, up, down, round, sum, sub, lt, eq, fits}
use lib.Ieee.Fits.{up_pos, down_pos}
use lib.Ieee.Bits.{is_true}
use lib.Ieee.Scale.{finite}
use Rattle.number.specs.Leaves.{absolute}
use Rattle.number.proofs.Patterns.{round_self}
use Rattle.number.proofs.Fractions.{plus_of, minus_of, AtMost→le, Below→lt}
use Rattle.number.proofs.Order.{below_zero, holds, fails, nought}
use Rattle.number.proofs.Order.{eq_le, eq_ge, le_transitive, le_antisymmetric, lt_not_le, le_lt_transitive}
use Rattle.number.proofs.Monotone.{sub_number, sub_turns}
use Rattle.number.proofs.Rounded.{Rounds, zero_equals, sum_rounds}

-- ---- finite

sub_zero : (a b : ℕ) → a ≡ b → a - b ≡ 0
sub_zero a b h = omega arith

none_left : (f : Format) (x : Float) (p n d : ℕ) → 0 < d → p ≡ n → Rounds f x p n d → T (eq x nought)
none_left f x p n d D h (inl (a, e)) = rw (e, sub_zero p n h) (zero_equals f false d D)
none_left f x p n d D h (inr (a, e)) = rw (e, sub_zero n p (sym h)) (zero_equals f true d D)

finite_leaves : (f : Format) (s : Bool) (m : ℕ) (e : ℤ) → T (eq (sub f (fin s m e) (fin s m e)) nought)
unfolding sub
finite_leaves f s m e =
    let a = m * up e * down e in
    let d = down e * down e in
    none_left f (sum f s a (not s) a d) _ _ d (mul-pos (down_pos e) (down_pos e)) (go s a) (sum_rounds f s a (not s) a d)
  where
    go : (s : Bool) (a : ℕ) → plus_of s a + plus_of (not s) a ≡ minus_of s a + minus_of (not s) a
    go true a = omega arith
    go false a = omega arith

pub finite_test : (f : Format) (x : Float) → eq (sub f x x) nought ≡ finite x
unfolding sub eq
finite_test f nan = refl
finite_test f (inf true) = refl
finite_test f (inf false) = refl
finite_test f (fin s m e) = is_true (eq (sub f (fin s m e) (fin s m e)) nought) (finite_leaves f s m e)

-- of two: a NaN equals nothing, and one zero equals another
no_equal : (x : Float) → eq x nan ≡ false
unfolding eq
no_equal nan = refl
no_equal (inf s) = refl
no_equal (fin s m e) = refl

zeros_equal : (x y : Float) → T (eq x nought) → T (eq y nought) → T (eq x y)
zeros_equal x y X Y = le_antisymmetric x y (le_transitive x nought y (eq_le x nought X) (eq_ge y nought Y)) (le_transitive y nought x (eq_le y nought Y) (eq_ge x nought X))

pub both_finite_test : (f : Format) (x y : Float) → eq (sub f x x) (sub f y y) ≡ (finite x && finite y)
unfolding sub eq
both_finite_test f nan y = refl
both_finite_test f (inf true) y = refl
both_finite_test f (inf false) y = refl
both_finite_test f (fin s m e) nan = no_equal (sub f (fin s m e) (fin s m e))
both_finite_test f (fin s m e) (inf true) = no_equal (sub f (fin s m e) (fin s m e))
both_finite_test f (fin s m e) (inf false) = no_equal (sub f (fin s m e) (fin s m e))
both_finite_test f (fin s m e) (fin t n d) =
    let x = sub f (fin s m e) (fin s m e) in
    let y = sub f (fin t n d) (fin t n d) in
    is_true (eq x y) (zeros_equal x y (finite_leaves f s m e) (finite_leaves f t n d))

-- ---- the absolute value, by what the value leaves of +0

unsigned_fits : (f : Format) (s t : Bool) (m : ℕ) (e : ℤ) → T (fits f (fin s m e)) → T (fits f (fin t m e))
unfolding fits
unsigned_fits f s t zero e F = F
unsigned_fits f s t (suc m) e F = F

opened : (f : Format) (s : Bool) (m : ℕ) (e : ℤ) → sub f nought (fin s m e) ≡ sum f false 0 (not s) (m * up e) (down e)
unfolding sub
opened f s m e = simp (zero-mul, one-mul, mul-one)

-- a negative value and minus zero leave their size, and so does +0
leaves_size : (f : Format) (m : ℕ) (e : ℤ) → T (fits f (fin true m e)) → sub f nought (fin true m e) ≡ fin false m e
unfolding sum
leaves_size f m e F = opened f true m e ∙ ap (λ (n : ℕ). round f false n (down e)) (zero-add (m * up e)) ∙ round_self f false m e (unsigned_fits f true false m e F)

leaves_zero : (f : Format) (e : ℤ) → T (fits f (fin false 0 e)) → sub f nought (fin false 0 e) ≡ fin false 0 e
unfolding sum
leaves_zero f e F =
    opened f false 0 e
    ∙ ap (λ (n : ℕ). sum f false 0 true n (down e)) (zero-mul (up e))
    ∙ ap (λ (n : ℕ). round f false n (down e)) (sym (zero-mul (up e)))
    ∙ round_self f false 0 e F

-- a positive value leaves no more than zero, which is less
leaves_less : (f : Format) (m : ℕ) (e : ℤ) → T (lt (sub f nought (fin false (suc m) e)) (fin false (suc m) e))
leaves_less f m e =
    let x = fin false (suc m) e in
    le_lt_transitive (sub f nought x) nought x
    (rw (leaves_zero f (pos 0) (unfold fits in tt)) at
    (sub_turns f nought nought x (sub_number f nought nought tt tt) (sub_number f nought x tt tt) (AtMost→le nought x tt tt (omega arith))))
    (Below→lt nought x tt tt (omega (arith, mul-pos (zero-lt-suc m) (up_pos e))))

pub absolute_kept : (f : Format) (x : Float) → T (fits f x) → lt (sub f nought x) x ≡ true → x ≡ absolute x
unfolding absolute sub lt
absolute_kept f nan F h = refl
absolute_kept f (inf true) F h = absurd (false≢true h)
absolute_kept f (inf false) F h = refl
absolute_kept f (fin true m e) F h = absurd (lt_not_le (fin false m e) (fin true m e) (holds (rw (leaves_size f m e F) at h)) (below_zero (fin true m e) (fin false m e) tt tt))
absolute_kept f (fin false m e) F h = refl

pub absolute_turned : (f : Format) (x : Float) → T (fits f x) → lt (sub f nought x) x ≡ false → sub f nought x ≡ absolute x
unfolding absolute sub lt
absolute_turned f nan F h = refl
absolute_turned f (inf true) F h = refl
absolute_turned f (inf false) F h = absurd (true≢false h)
absolute_turned f (fin true m e) F h = leaves_size f m e F
absolute_turned f (fin false zero e) F h = leaves_zero f e F
absolute_turned f (fin false (suc m) e) F h = absurd (fails h (leaves_less f m e))
