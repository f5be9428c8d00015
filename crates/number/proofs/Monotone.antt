-- Each rounded operation keeps the order of one operand, or turns it round, in any format: the sum, the difference,
-- the product with a constant and the quotient by one, of either sign. Operands and results may be infinite;
-- where an infinite operand can give a NaN, both results are to be numbers. And a finite result has finite operands. Assumes nothing.
use Rattle.std.proofs.Common.{◌≡◌, ℕ, zero, suc, ◌+◌, ◌-◌, ◌*◌, ◌<◌, ◌≤◌, Bool, true, false, cond, not, T, eqb, ltb, ℤ, pos, sym, refl, ap, ◌∙◌, inl, inr, mul-le-mul_right, zero-lt-suc, mul_comm, add_comm, mul-pos, zero-mul, arith, ltb→lt, nltb→le}
use lib.Ieee.{Float, nan, inf, fin, Format, up, down, unlike, round, neg, sum, add, sub, mul, div, le, lt}
use lib.Ieee.Fits.{up_pos}
use lib.Ieee.Scale.{finite}
use lib.Ieee.Positive.{den, den_pos, first_pos}
use Rattle.number.proofs.Fractions.{plus_part, minus_part, AtMost, le→AtMost, lt→Below, ring}
use Rattle.number.proofs.Order.{signed, number, nought, below_zero, not_infinite, least, greatest, no_less, no_more, neg_number, neg_finite, finite_neg}
use Rattle.number.proofs.Order.{le_number, le_reflexive, le_transitive, le_neg, le_neg_back, lt_not_le, le_lt_transitive, lt_neg}
use Rattle.number.proofs.Rounded.{round_signed, round_neg, Rounds, rounds_mono, add_rounds, mul_rounds, div_rounds}

-- what is rounded is a number
signed_number : (s : Bool) (x : Float) → T (signed s x) → T (number x)
signed_number s nan h = absurd h
signed_number s (inf t) h = tt
signed_number s (fin t m e) h = tt

pub rounds_number : (f : Format) (x : Float) (p n d : ℕ) → Rounds f x p n d → T (number x)
rounds_number f x p n d (inl (a, e)) = rw e (signed_number false (round f false (p - n) d) (round_signed f false (p - n) d))
rounds_number f x p n d (inr (a, e)) = rw e (signed_number true (round f true (n - p) d) (round_signed f true (n - p) d))

-- what keeps each infinity, wherever the result is a number, and the order of finite values keeps the order of all values
through : (g : Float → Float) → ((s : Bool) → T (number (g (inf s))) → g (inf s) ≡ inf s)
    → ((x y : Float) → T (finite x) → T (finite y) → T (number (g x)) → T (le x y) → T (le (g x) (g y)))
    → (x y : Float) → T (number (g x)) → T (number (g y)) → T (le x y) → T (le (g x) (g y))
through g i f nan y p q h = absurd (le_number nan y h).0
through g i f (inf true) y p q h = rw (i true p) (least (g y) q)
through g i f (inf false) y p q h = rw (no_more y h) (le_reflexive (g (inf false)) p)
through g i f (fin s m e) nan p q h = absurd (le_number (fin s m e) nan h).1
through g i f (fin s m e) (inf true) p q h = absurd (not_infinite s m e true (no_less (fin s m e) h))
through g i f (fin s m e) (inf false) p q h = rw (i false q) (greatest (g (fin s m e)) p)
through g i f (fin s m e) (fin t n d) p q h = f (fin s m e) (fin t n d) tt tt p h

-- ---- the sum

sum_unlike : (f : Format) (a b c : ℕ) → sum f false a true b c ≡ sum f true b false a c
unfolding sum
sum_unlike f a b c = go (ltb a b) (ltb b a) (ltb→lt a b) (nltb→le a b) (ltb→lt b a) (nltb→le b a)
  where
    go : (t u : Bool) → (T t → a < b) → (T (not t) → b ≤ a) → (T u → b < a) → (T (not u) → a ≤ b)
        → cond t (round f true (b - a) c) (round f false (a - b) c) ≡ cond u (round f false (a - b) c) (round f t (b - a) c)
    go true true l g k h = absurd (omega (arith, l tt, k tt))
    go true false l g k h = refl
    go false true l g k h = refl
    go false false l g k h = ap (λ (n : ℕ). round f false n c) (omega (arith, g tt, h tt))

sum_comm : (f : Format) (s : Bool) (a : ℕ) (t : Bool) (b c : ℕ) → sum f s a t b c ≡ sum f t b s a c
unfolding sum
sum_comm f false a false b c = ap (λ (n : ℕ). round f false n c) (add_comm a b)
sum_comm f true a true b c = ap (λ (n : ℕ). round f true n c) (add_comm a b)
sum_comm f false a true b c = sum_unlike f a b c
sum_comm f true a false b c = sym (sum_unlike f b a c)

pub add_commutative : (f : Format) (x y : Float) → add f x y ≡ add f y x
unfolding add
add_commutative f nan nan = refl
add_commutative f nan (inf t) = refl
add_commutative f nan (fin t n d) = refl
add_commutative f (inf s) nan = refl
add_commutative f (inf true) (inf true) = refl
add_commutative f (inf true) (inf false) = refl
add_commutative f (inf false) (inf true) = refl
add_commutative f (inf false) (inf false) = refl
add_commutative f (inf s) (fin t n d) = refl
add_commutative f (fin s m e) nan = refl
add_commutative f (fin s m e) (inf t) = refl
add_commutative f (fin s m e) (fin t n d) =
    sum_comm f s (m * up e * down d) t (n * up d * down e) (down e * down d) ∙ ap (sum f t (n * up d * down e) s (m * up e * down d)) (mul_comm (down e) (down d))

pub add_infinite : (f : Format) (s : Bool) (k : Float) → T (number (add f (inf s) k)) → add f (inf s) k ≡ inf s
unfolding add
add_infinite f s nan h = absurd h
add_infinite f true (inf true) h = refl
add_infinite f true (inf false) h = absurd h
add_infinite f false (inf true) h = absurd h
add_infinite f false (inf false) h = refl
add_infinite f s (fin t n d) h = refl

pub add_fractions : (p n d p' n' d' a b c : ℕ) → AtMost p n d p' n' d' → AtMost (p * c + a * d) (n * c + b * d) (d * c) (p' * c + a * d') (n' * c + b * d') (d' * c)
add_fractions p n d p' n' d' a b c h = simp ring (omega (arith, simp ring at (mul-le-mul_right (c * c) h)))

add_rounded : (f : Format) (k x y : Float) → T (finite k) → T (finite x) → T (finite y) → T (le x y) → T (le (add f x k) (add f y k))
add_rounded f k x y K X Y h =
    rounds_mono f (add f x k) (add f y k) _ _ (den x * den k) _ _ (den y * den k)
    (mul-pos (den_pos x) (den_pos k)) (mul-pos (den_pos y) (den_pos k)) (add_rounds f x k X K) (add_rounds f y k Y K)
    (add_fractions (plus_part x) (minus_part x) (den x) (plus_part y) (minus_part y) (den y) (plus_part k) (minus_part k) (den k) (le→AtMost x y X Y h))

add_of_finite : (f : Format) (k x y : Float) → T (finite x) → T (finite y) → T (number (add f x k)) → T (le x y) → T (le (add f x k) (add f y k))
unfolding add
add_of_finite f k nan y X Y p h = absurd X
add_of_finite f k (inf s) y X Y p h = absurd X
add_of_finite f k (fin s m e) nan X Y p h = absurd Y
add_of_finite f k (fin s m e) (inf t) X Y p h = absurd Y
add_of_finite f nan (fin s m e) (fin t n d) X Y p h = absurd p
add_of_finite f (inf u) (fin s m e) (fin t n d) X Y p h = le_reflexive (inf u) tt
add_of_finite f (fin u l c) (fin s m e) (fin t n d) X Y p h = add_rounded f (fin u l c) (fin s m e) (fin t n d) tt tt tt h

pub add_keeps : (f : Format) (k x y : Float) → T (number (add f x k)) → T (number (add f y k)) → T (le x y) → T (le (add f x k) (add f y k))
add_keeps f k = through (λ x. add f x k) (λ s. add_infinite f s k) (add_of_finite f k)

-- ---- the difference

pub sub_keeps : (f : Format) (k x y : Float) → T (number (sub f x k)) → T (number (sub f y k)) → T (le x y) → T (le (sub f x k) (sub f y k))
unfolding sub
sub_keeps f k x y p q h = add_keeps f (neg k) x y p q h

pub sub_turns : (f : Format) (k x y : Float) → T (number (sub f k x)) → T (number (sub f k y)) → T (le x y) → T (le (sub f k y) (sub f k x))
unfolding sub
sub_turns f k x y p q h =
    rw (add_commutative f k (neg x), add_commutative f k (neg y))
    (add_keeps f k (neg y) (neg x) (rw (add_commutative f k (neg y)) at q) (rw (add_commutative f k (neg x)) at p) (le_neg x y h))

-- ---- the product with a finite constant

unlike_not : (s t : Bool) → unlike (not s) t ≡ not (unlike s t)
unlike_not true true = refl
unlike_not true false = refl
unlike_not false true = refl
unlike_not false false = refl

not_unlike : (s t : Bool) → unlike s (not t) ≡ not (unlike s t)
not_unlike true true = refl
not_unlike true false = refl
not_unlike false true = refl
not_unlike false false = refl

infinite_neg : (b s t : Bool) → s ≡ not t → cond b nan (inf s) ≡ neg (cond b nan (inf t))
unfolding neg
infinite_neg true s t h = refl
infinite_neg false s t h = ap inf h

mul_neg : (f : Format) (x y : Float) → mul f (neg x) y ≡ neg (mul f x y)
unfolding mul neg
mul_neg f nan y = refl
mul_neg f (inf s) nan = refl
mul_neg f (inf s) (inf t) = ap inf (unlike_not s t)
mul_neg f (inf s) (fin t n d) = infinite_neg (eqb n 0) (unlike (not s) t) (unlike s t) (unlike_not s t)
mul_neg f (fin s m e) nan = refl
mul_neg f (fin s m e) (inf t) = infinite_neg (eqb m 0) (unlike (not s) t) (unlike s t) (unlike_not s t)
mul_neg f (fin s m e) (fin t n d) =
    ap (λ (u : Bool). round f u (m * up e * (n * up d)) (down e * down d)) (unlike_not s t) ∙ round_neg f (unlike s t) (m * up e * (n * up d)) (down e * down d)

-- a constant that is not below zero has no minus part
not_below : (c : Float) → T (finite c) → T (le nought c) → minus_part c ≡ 0
not_below nan C h = absurd C
not_below (inf s) C h = absurd C
not_below (fin false m e) C h = refl
not_below (fin true m e) C h = omega (arith, le→AtMost nought (fin true m e) tt tt h)

mul_infinite : (f : Format) (s : Bool) (c : Float) → T (finite c) → T (le nought c) → T (number (mul f c (inf s))) → mul f c (inf s) ≡ inf s
unfolding mul
mul_infinite f s nan C z h = absurd C
mul_infinite f s (inf t) C z h = absurd C
mul_infinite f s (fin false m e) C z h = go (eqb m 0) s h
  where
    go : (b s : Bool) → T (number (cond b nan (inf (unlike false s)))) → cond b nan (inf (unlike false s)) ≡ inf s
    go true s h = absurd h
    go false true h = refl
    go false false h = refl
mul_infinite f s (fin true zero e) C z h = absurd h
mul_infinite f s (fin true (suc m) e) C z h = absurd (omega (arith, mul-pos (zero-lt-suc m) (up_pos e), not_below (fin true (suc m) e) C z))

mul_fractions : (p n d p' n' d' a b c : ℕ) → b ≡ 0 → AtMost p n d p' n' d' → AtMost (a * p + b * n) (a * n + b * p) (c * d) (a * p' + b * n') (a * n' + b * p') (c * d')
mul_fractions p n d p' n' d' a b c z h = rw z (simp (ring, zero-mul) (omega (arith, simp ring at (mul-le-mul_right (a * c) h))))

pub mul_keeps : (f : Format) (c x y : Float) → T (finite c) → T (le nought c) → T (number (mul f c x)) → T (number (mul f c y)) → T (le x y) → T (le (mul f c x) (mul f c y))
mul_keeps f c x y C z = through (mul f c) (λ s. mul_infinite f s c C z) (λ x y X Y p h.
    rounds_mono f (mul f c x) (mul f c y) _ _ (den c * den x) _ _ (den c * den y)
    (mul-pos (den_pos c) (den_pos x)) (mul-pos (den_pos c) (den_pos y)) (mul_rounds f c x C X) (mul_rounds f c y C Y)
    (mul_fractions (plus_part x) (minus_part x) (den x) (plus_part y) (minus_part y) (den y) (plus_part c) (minus_part c) (den c) (not_below c C z) (le→AtMost x y X Y h))) x y

-- zero is no more than what a value below zero is turned into
turned : (c : Float) → T (le c nought) → T (le nought (neg c))
unfolding le neg
turned c h = le_transitive nought (neg nought) (neg c) tt (le_neg c nought h)

pub mul_turns : (f : Format) (c x y : Float) → T (finite c) → T (le c nought) → T (number (mul f c x)) → T (number (mul f c y)) → T (le x y) → T (le (mul f c y) (mul f c x))
mul_turns f c x y C z p q h =
    le_neg_back (mul f c x) (mul f c y)
    (rw (mul_neg f c x, mul_neg f c y) at (mul_keeps f (neg c) x y (neg_finite c C) (turned c z) (rw mul_neg (neg_number (mul f c x) p)) (rw mul_neg (neg_number (mul f c y) q)) h))

-- ---- the quotient by a finite constant that is not zero

div_neg : (f : Format) (x y : Float) → div f x (neg y) ≡ neg (div f x y)
unfolding div neg
div_neg f nan y = refl
div_neg f (inf s) nan = refl
div_neg f (inf s) (inf t) = refl
div_neg f (inf s) (fin t n d) = ap inf (not_unlike s t)
div_neg f (fin s m e) nan = refl
div_neg f (fin s m e) (inf t) = ap (λ (u : Bool). fin u 0 (pos 0)) (not_unlike s t)
div_neg f (fin s m e) (fin t n d) = go (eqb n 0)
  where
    go : (b : Bool)
        → cond b (cond (eqb m 0) nan (inf (unlike s (not t)))) (round f (unlike s (not t)) (m * up e * down d) (n * up d * down e))
        ≡ neg (cond b (cond (eqb m 0) nan (inf (unlike s t))) (round f (unlike s t) (m * up e * down d) (n * up d * down e)))
    go true = infinite_neg (eqb m 0) (unlike s (not t)) (unlike s t) (not_unlike s t)
    go false = ap (λ (u : Bool). round f u (m * up e * down d) (n * up d * down e)) (not_unlike s t) ∙ round_neg f (unlike s t) (m * up e * down d) (n * up d * down e)

div_fractions : (p n d p' n' d' a c : ℕ) → AtMost p n d p' n' d' → AtMost (p * a) (n * a) (c * d) (p' * a) (n' * a) (c * d')
div_fractions p n d p' n' d' a c h = simp ring (omega (arith, simp ring at (mul-le-mul_right (a * c) h)))

div_infinite : (f : Format) (s : Bool) (n : ℕ) (d : ℤ) → div f (inf s) (fin false n d) ≡ inf s
unfolding div
div_infinite f true n d = refl
div_infinite f false n d = refl

div_number : (f : Format) (x : Float) (n : ℕ) (d : ℤ) → T (number x) → 0 < n → T (number (div f x (fin false n d)))
div_number f nan n d X N = absurd X
div_number f (inf s) n d X N = rw (div_infinite f s n d) tt
div_number f (fin s m e) n d X N = rounds_number f (div f (fin s m e) (fin false n d)) _ _ _ (div_rounds f (fin s m e) n d tt N)

div_above : (f : Format) (n : ℕ) (d : ℤ) (x y : Float) → 0 < n → T (le x y) → T (le (div f x (fin false n d)) (div f y (fin false n d)))
div_above f n d x y N h =
    let k = fin false n d in
    let K : 0 < n * up d = mul-pos N (up_pos d) in
    let v = le_number x y h in
    through (λ x. div f x k) (λ s p. div_infinite f s n d) (λ x y X Y p h.
    rounds_mono f (div f x k) (div f y k) _ _ (n * up d * den x) _ _ (n * up d * den y)
    (mul-pos K (den_pos x)) (mul-pos K (den_pos y)) (div_rounds f x n d X N) (div_rounds f y n d Y N)
    (div_fractions (plus_part x) (minus_part x) (den x) (plus_part y) (minus_part y) (den y) (down d) (n * up d) (le→AtMost x y X Y h)))
    x y (div_number f x n d v.0 N) (div_number f y n d v.1 N) h

pub div_keeps : (f : Format) (c x y : Float) → T (finite c) → T (lt nought c) → T (le x y) → T (le (div f x c) (div f y c))
div_keeps f nan x y C z h = absurd C
div_keeps f (inf s) x y C z h = absurd C
div_keeps f (fin true n d) x y C z h = absurd (lt_not_le nought (fin true n d) z (below_zero (fin true n d) nought tt tt))
div_keeps f (fin false n d) x y C z h = div_above f n d x y (first_pos n (up d) (omega (arith, lt→Below nought (fin false n d) tt tt z))) h

pub div_turns : (f : Format) (c x y : Float) → T (finite c) → T (lt c nought) → T (le x y) → T (le (div f y c) (div f x c))
div_turns f c x y C z h =
    let above : T (lt nought (neg c)) = le_lt_transitive nought (neg nought) (neg c) (turned nought (le_reflexive nought tt)) (lt_neg c nought z) in
    le_neg_back (div f x c) (div f y c) (rw (div_neg f x c, div_neg f y c) at (div_keeps f (neg c) x y (neg_finite c C) above h))

-- ---- where finite operands are enough for a number

pub add_number : (f : Format) (x k : Float) → T (number x) → T (finite k) → T (number (add f x k))
unfolding add
add_number f x nan X K = absurd K
add_number f x (inf t) X K = absurd K
add_number f nan (fin t n d) X K = absurd X
add_number f (inf s) (fin t n d) X K = tt
add_number f (fin s m e) (fin t n d) X K = rounds_number f (add f (fin s m e) (fin t n d)) _ _ _ (add_rounds f (fin s m e) (fin t n d) tt tt)

pub sub_number : (f : Format) (x k : Float) → T (number x) → T (finite k) → T (number (sub f x k))
unfolding sub
sub_number f x k X K = add_number f x (neg k) X (neg_finite k K)

pub mul_number : (f : Format) (x y : Float) → T (finite x) → T (finite y) → T (number (mul f x y))
mul_number f x y X Y = rounds_number f (mul f x y) _ _ _ (mul_rounds f x y X Y)

-- ---- a finite result has finite operands

pub add_finite : (f : Format) (x y : Float) → T (finite (add f x y)) → T (finite x) × T (finite y)
unfolding add
add_finite f nan y h = absurd h
add_finite f (inf s) nan h = absurd h
add_finite f (inf true) (inf true) h = absurd h
add_finite f (inf true) (inf false) h = absurd h
add_finite f (inf false) (inf true) h = absurd h
add_finite f (inf false) (inf false) h = absurd h
add_finite f (inf s) (fin t n d) h = absurd h
add_finite f (fin s m e) nan h = absurd h
add_finite f (fin s m e) (inf t) h = absurd h
add_finite f (fin s m e) (fin t n d) h = (tt, tt)

pub sub_finite : (f : Format) (x y : Float) → T (finite (sub f x y)) → T (finite x) × T (finite y)
unfolding sub
sub_finite f x y h = let p = add_finite f x (neg y) h in (p.0, finite_neg y p.1)

not_finite : (b c : Bool) → T (finite (cond b nan (inf c))) → ⊥
not_finite true c h = h
not_finite false c h = h

pub mul_finite : (f : Format) (x y : Float) → T (finite (mul f x y)) → T (finite x) × T (finite y)
unfolding mul
mul_finite f nan y h = absurd h
mul_finite f (inf s) nan h = absurd h
mul_finite f (inf s) (inf t) h = absurd h
mul_finite f (inf s) (fin t n d) h = absurd (not_finite (eqb n 0) (unlike s t) h)
mul_finite f (fin s m e) nan h = absurd h
mul_finite f (fin s m e) (inf t) h = absurd (not_finite (eqb m 0) (unlike s t) h)
mul_finite f (fin s m e) (fin t n d) h = (tt, tt)

-- the divisor may be infinite: then the quotient is a zero
pub div_finite : (f : Format) (x y : Float) → T (finite (div f x y)) → T (finite x)
unfolding div
div_finite f nan y h = absurd h
div_finite f (inf s) nan h = absurd h
div_finite f (inf s) (inf t) h = absurd h
div_finite f (inf s) (fin t n d) h = absurd h
div_finite f (fin s m e) y h = tt
