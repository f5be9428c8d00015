-- Each operation on finite values rounds a signed fraction, and rounding keeps the order of signed fractions (`rounds-mono`):
-- so an operation keeps the order where its fractions do. Assumes nothing.
use Rattle.std.proofs.Common.{◌≡◌, ℕ, zero, suc, ◌+◌, ◌-◌, ◌*◌, ◌^◌, ◌<◌, ◌≤◌, Bool, true, false, cond, not, ◌&&◌, T, eqb, ltb, ◌⊎◌, ℤ, sym, refl, ap, ◌∙◌, inl, inr, le_of_lt, mul-le-mul_right, mul_comm, zero-mul, le_of_mul-le-mul_right, arith, ltb→lt, nltb→le, pow_pos, ne_eqb}
use mathlib.Core.Bool.{beq}
use native.Mathlib.Nat.{mul-sub, eq_of_mul-eq-mul_right}
use lib.Ieee.{Float, nan, inf, fin, Format, prec, emax, low, up, down, unlike, odd, units, round, neg, sum, add, mul, div, le, lt, eq, fits}
use lib.Ieee.Fits.{round-fits}
use lib.Ieee.Exact.{HasValue, round_exact}
use lib.Ieee.Order.{round_mono}
use lib.Ieee.Scale.{finite}
use lib.Ieee.Positive.{den}
use Rattle.number.proofs.Fractions.{plus_of, minus_of, plus_times_lem, minus_times_lem, plus_part, minus_part, AtMost, AtMost→le}
use Rattle.number.proofs.Order.{nought, signed, below_zero, less_or_not, lt_not_le, le_antisymmetric, le_neg}

-- ---- the sign of what is rounded

beq_self : (s : Bool) → T (beq s s)
beq_self true = tt
beq_self false = tt

odd_signed : (d : ℕ) (s : Bool) (q k l : ℕ) → T (signed s (odd d s q k l))
unfolding odd
odd_signed d s zero k l = beq_self s
odd_signed d s (suc q) k l = beq_self s

units_signed : (f : Format) (s : Bool) (q k : ℕ) → T (signed s (units f s q k))
unfolding units
units_signed f s q k = go (ltb (q * 2 ^ k) (2 ^ (low f + suc (emax f))))
  where
    go : (b : Bool) → T (signed s (cond b (odd (suc (prec f)) s q k (low f)) (inf s)))
    go true = odd_signed (suc (prec f)) s q k (low f)
    go false = beq_self s

pub round_signed : (f : Format) (s : Bool) (a b : ℕ) → T (signed s (round f s a b))
unfolding round
round_signed f s a b = units_signed f s _ _

odd_neg : (d : ℕ) (s : Bool) (q k l : ℕ) → odd d (not s) q k l ≡ neg (odd d s q k l)
unfolding odd neg
odd_neg d s zero k l = refl
odd_neg d s (suc q) k l = refl

units_neg : (f : Format) (s : Bool) (q k : ℕ) → units f (not s) q k ≡ neg (units f s q k)
unfolding units neg
units_neg f s q k = go (ltb (q * 2 ^ k) (2 ^ (low f + suc (emax f))))
  where
    go : (b : Bool) → cond b (odd (suc (prec f)) (not s) q k (low f)) (inf (not s)) ≡ neg (cond b (odd (suc (prec f)) s q k (low f)) (inf s))
    go true = odd_neg (suc (prec f)) s q k (low f)
    go false = refl

pub round_neg : (f : Format) (s : Bool) (a b : ℕ) → round f (not s) a b ≡ neg (round f s a b)
unfolding round
round_neg f s a b = units_neg f s _ _

-- ---- zero

zero_value : (x : Float) (s : Bool) (c : ℕ) → 0 < c → HasValue x s 0 c → T (finite x) × (plus_part x ≡ 0) × (minus_part x ≡ 0)
zero_value nan s c C h = absurd h
zero_value (inf t) s c C h = absurd h
zero_value (fin t m e) s c C h = go t
  where
    z : m * up e ≡ 0
    z = eq_of_mul-eq-mul_right c C (m * up e) 0 (h.1 ∙ zero-mul (down e) ∙ sym (zero-mul c))

    go : (t : Bool) → T true × (plus_of t (m * up e) ≡ 0) × (minus_of t (m * up e) ≡ 0)
    go false = (tt, z, refl)
    go true = (tt, refl, z)

pub round_zero : (f : Format) (s : Bool) (d : ℕ) → 0 < d → HasValue (round f s 0 d) s 0 d
round_zero f s d D = round_exact f s 0 d 0 0 D (pow_pos (prec f)) (pow_pos (low f + suc (emax f))) (simp zero-mul)

-- ---- x is (p - n) / d rounded, where a zero may have either sign

abbrev pub Rounds : Format → Float → ℕ → ℕ → ℕ → Type 0
Rounds f x p n d = ((n ≤ p) × (x ≡ round f false (p - n) d)) ⊎ ((p ≤ n) × (x ≡ round f true (n - p) d))

pub rounds_fits : (f : Format) (x : Float) (p n d : ℕ) → Rounds f x p n d → T (fits f x)
rounds_fits f x p n d (inl (a, e)) = rw e (round-fits f false (p - n) d)
rounds_fits f x p n d (inr (a, e)) = rw e (round-fits f true (n - p) d)

pub sub_mul : (a b c : ℕ) → (a - b) * c ≡ a * c - b * c
sub_mul a b c = mul_comm (a - b) c ∙ mul-sub c a b ∙ ap (λ (z : ℕ). z - c * b) (mul_comm c a) ∙ ap (λ (z : ℕ). a * c - z) (mul_comm c b)

differences : (p n d p' n' d' : ℕ) → n' ≤ p' → AtMost p n d p' n' d' → (p - n) * d' ≤ (p' - n') * d
differences p n d p' n' d' H h =
    let a : n' * d ≤ p' * d = mul-le-mul_right d H in
    rw (sub_mul p n d', sub_mul p' n' d) (omega arith)

zeros_le : (x y : Float) → T (finite x) → T (finite y) → plus_part x ≡ 0 → minus_part y ≡ 0 → T (le x y)
zeros_le x y p q a b = AtMost→le x y p q (rw (a, b) (omega arith))

-- a zero of either sign equals +0
pub zero_equals : (f : Format) (s : Bool) (d : ℕ) → 0 < d → T (eq (round f s 0 d) nought)
zero_equals f s d D =
    let x = round f s 0 d in
    let z = zero_value x s d D (round_zero f s d D) in
    le_antisymmetric x nought (zeros_le x nought z.0 tt z.1 refl) (zeros_le nought x tt z.0 refl z.2)

-- a fraction that is 0 or more, and at most one that is 0 or less: both are 0
squeezed : (p n d p' n' d' : ℕ) → 0 < d → 0 < d' → n ≤ p → p' ≤ n' → AtMost p n d p' n' d' → (p - n ≡ 0) × (n' - p' ≡ 0)
squeezed p n d p' n' d' D D' a b h =
    let u : n * d' ≤ p * d' = mul-le-mul_right d' a in
    let v : p' * d ≤ n' * d = mul-le-mul_right d b in
    let x : p ≤ n = le_of_mul-le-mul_right {k = d'} (omega arith) D' in
    let y : n' ≤ p' = le_of_mul-le-mul_right {k = d} (omega arith) D in
    (omega arith, omega arith)

pub rounds_mono : (f : Format) (x y : Float) (p n d p' n' d' : ℕ) → 0 < d → 0 < d' → Rounds f x p n d → Rounds f y p' n' d' → AtMost p n d p' n' d' → T (le x y)
rounds_mono f x y p n d p' n' d' D D' (inl (a, e)) (inl (b, g)) h = rw (e, g) (round_mono f (p - n) d (p' - n') d' D D' (differences p n d p' n' d' b h))
rounds_mono f x y p n d p' n' d' D D' (inl (a, e)) (inr (b, g)) h =
    let z = squeezed p n d p' n' d' D D' a b h in
    let u = zero_value (round f false 0 d) false d D (round_zero f false d D) in
    let v = zero_value (round f true 0 d') true d' D' (round_zero f true d' D') in
    rw (e, g, z.0, z.1) (zeros_le (round f false 0 d) (round f true 0 d') u.0 v.0 u.1 v.2)
rounds_mono f x y p n d p' n' d' D D' (inr (a, e)) (inl (b, g)) h =
    rw (e, g) (below_zero (round f true (n - p) d) (round f false (p' - n') d') (round_signed f true (n - p) d) (round_signed f false (p' - n') d'))
rounds_mono f x y p n d p' n' d' D D' (inr (a, e)) (inr (b, g)) h =
    rw (e, g, round_neg f false (n - p) d, round_neg f false (n' - p') d')
    (le_neg (round f false (n' - p') d') (round f false (n - p) d) (round_mono f (n' - p') d' (n - p) d D' D (differences n' p' d' n p d a (omega arith))))

-- and where rounded values are strictly in order, so are their fractions
pub rounds_lt : (f : Format) (x y : Float) (p n d p' n' d' : ℕ) → 0 < d → 0 < d' → Rounds f x p n d → Rounds f y p' n' d' → T (lt x y) → AtMost p n d p' n' d'
rounds_lt f x y p n d p' n' d' D D' r r' h = elim (less_or_not (p' * d + n * d') (p * d' + n' * d)) [
  | inl b ↦ absurd (lt_not_le x y h (rounds_mono f y x p' n' d' p n d D' D r' r (le_of_lt b)))
  | inr g ↦ g
]

-- ---- the sum, the product and the quotient of finite values

pub sum_rounds : (f : Format) (s : Bool) (a : ℕ) (t : Bool) (b c : ℕ) → Rounds f (sum f s a t b c) (plus_of s a + plus_of t b) (minus_of s a + minus_of t b) c
unfolding sum
sum_rounds f false a false b c = inl (omega arith, ap (λ (z : ℕ). round f false z c) (omega arith))
sum_rounds f true a true b c = inr (omega arith, ap (λ (z : ℕ). round f true z c) (omega arith))
sum_rounds f false a true b c = go (ltb a b) (ltb→lt a b) (nltb→le a b)
  where
    go : (t : Bool) → (T t → a < b) → (T (not t) → b ≤ a) → Rounds f (cond t (round f true (b - a) c) (round f false (a - b) c)) (a + 0) (0 + b) c
    go true h k = inr (omega (arith, h tt), ap (λ (z : ℕ). round f true z c) (omega arith))
    go false h k = inl (omega (arith, k tt), ap (λ (z : ℕ). round f false z c) (omega arith))
sum_rounds f true a false b c = go (ltb a b) (ltb b a) (ltb→lt a b) (nltb→le a b) (ltb→lt b a) (nltb→le b a)
  where
    go : (t u : Bool) → (T t → a < b) → (T (not t) → b ≤ a) → (T u → b < a) → (T (not u) → a ≤ b)
        → Rounds f (cond t (round f false (b - a) c) (round f (true && u) (a - b) c)) (0 + b) (a + 0) c
    go true u h k l g = inl (omega (arith, h tt), ap (λ (z : ℕ). round f false z c) (omega arith))
    go false true h k l g = inr (omega (arith, k tt), ap (λ (z : ℕ). round f true z c) (omega arith))
    go false false h k l g = inl (omega (arith, k tt, g tt), ap (λ (z : ℕ). round f false z c) (omega (arith, k tt, g tt)))

pub add_rounds : (f : Format) (x y : Float) → T (finite x) → T (finite y)
    → Rounds f (add f x y) (plus_part x * den y + plus_part y * den x) (minus_part x * den y + minus_part y * den x) (den x * den y)
unfolding add
add_rounds f nan y p q = absurd p
add_rounds f (inf s) y p q = absurd p
add_rounds f (fin s m e) nan p q = absurd q
add_rounds f (fin s m e) (inf t) p q = absurd q
add_rounds f (fin s m e) (fin t n d) p q = simp (plus_times_lem, minus_times_lem) (sum_rounds f s (m * up e * down d) t (n * up d * down e) (down e * down d))

pub mul_rounds : (f : Format) (x y : Float) → T (finite x) → T (finite y)
    → Rounds f (mul f x y) (plus_part x * plus_part y + minus_part x * minus_part y) (plus_part x * minus_part y + minus_part x * plus_part y) (den x * den y)
unfolding mul
mul_rounds f nan y p q = absurd p
mul_rounds f (inf s) y p q = absurd p
mul_rounds f (fin s m e) nan p q = absurd q
mul_rounds f (fin s m e) (inf t) p q = absurd q
mul_rounds f (fin false m e) (fin false n d) p q = inl (omega arith, ap (λ (z : ℕ). round f false z (down e * down d)) (omega arith))
mul_rounds f (fin false m e) (fin true n d) p q = inr (omega arith, ap (λ (z : ℕ). round f true z (down e * down d)) (omega arith))
mul_rounds f (fin true m e) (fin false n d) p q = inr (omega arith, ap (λ (z : ℕ). round f true z (down e * down d)) (omega arith))
mul_rounds f (fin true m e) (fin true n d) p q = inl (omega arith, ap (λ (z : ℕ). round f false z (down e * down d)) (omega arith))

div_is : (f : Format) (s : Bool) (m : ℕ) (e : ℤ) (n : ℕ) (d : ℤ) → 0 < n → div f (fin s m e) (fin false n d) ≡ round f (unlike s false) (m * up e * down d) (n * up d * down e)
unfolding div
div_is f s m e n d N =
    ap (λ (b : Bool). cond b (cond (eqb m 0) nan (inf (unlike s false))) (round f (unlike s false) (m * up e * down d) (n * up d * down e)))
    (ne_eqb n 0 (λ z. omega arith))

-- by a value above zero
pub div_rounds : (f : Format) (x : Float) (n : ℕ) (d : ℤ) → T (finite x) → 0 < n
    → Rounds f (div f x (fin false n d)) (plus_part x * down d) (minus_part x * down d) (n * up d * den x)
div_rounds f nan n d p N = absurd p
div_rounds f (inf s) n d p N = absurd p
div_rounds f (fin false m e) n d p N = inl (omega arith, div_is f false m e n d N ∙ ap (λ (z : ℕ). round f false z (n * up d * down e)) (omega arith))
div_rounds f (fin true m e) n d p N = inr (omega arith, div_is f true m e n d N ∙ ap (λ (z : ℕ). round f true z (n * up d * down e)) (omega arith))
