-- The fused multiply-add where an operand is a NaN, an infinity or a zero: there a rounded product and a rounded sum do no harm,
-- or one of the two is not needed. Over any format. Assumes nothing.
use Rattle.std.proofs.Common.{◌≡◌, ℕ, zero, suc, ◌+◌, ◌-◌, ◌*◌, ◌<◌, Bool, true, false, cond, not, ◌&&◌, ◌||◌, T, eqb, ◌⊎◌, ℤ, pos, sym, refl, ap, ◌∙◌, inl, inr, zero-lt-suc, mul-pos, zero-mul, arith, ne_eqb, eqb-true}
use mathlib.Core.Bool.{beq, false≢true}
use borrow.Author.Tests.{eqb-false}
use lib.Ieee.{Float, nan, inf, fin, Format, binary32, binary64, up, down, unlike, round, sum, add, mul, eq, is_nan}
use lib.Ieee.Fits.{up_pos, down_pos}
use lib.Ieee.Scale.{round_same}
use Rattle.whole_fma.specs.MultiplyAdd.{inf_plus, fma_of}
use Rattle.operands.specs.SignAndSize.{is_special}
use Rattle.whole_fma.proofs.Sums.{sum_same, sum_at, exact_like, exact_more}

-- ---- a factor that is special

-- a rounded zero is a zero
round_zero : (f : Format) (s : Bool) (den : ℕ) → 0 < den → round f s 0 den ≡ fin s 0 (pos 0)
round_zero f s den D = round_same f s 0 den 0 1 D (zero-lt-suc 0) (omega arith) ∙ at f
  where
    at : (f : Format) → round f s 0 1 ≡ fin s 0 (pos 0)
    at binary32 = unfold round in refl
    at binary64 = unfold round in refl

-- p and c are the product's numerator and denominator, 0 * 1 and 1 those of the zero that it is rounded to
zero_sum : (f : Format) (s u : Bool) (p l g c d : ℕ) → 0 < c → 0 < d → p ≡ 0 → sum f s (0 * 1 * d) u (l * g * 1) (1 * d) ≡ sum f s (p * d) u (l * g * c) (c * d)
zero_sum f s u p l g c d C D e = sum_same f s u (0 * 1 * d) (l * g * 1) (1 * d) (p * d) (l * g * c) (c * d) (omega arith) (mul-pos C D) (nought (c * d) p d e) (omega arith)
  where
    nought : (w p d : ℕ) → p ≡ 0 → 0 * 1 * d * w ≡ p * d * (1 * d)
    nought w p d e = omega (arith, ap (λ (z : ℕ). z * d * d) e)

zero_product : (f : Format) (s t : Bool) (m : ℕ) (e : ℤ) (n : ℕ) (d : ℤ) (z : Float) → m * up e * (n * up d) ≡ 0
    → add f (mul f (fin s m e) (fin t n d)) z ≡ fma_of f (fin s m e) (fin t n d) z
zero_product f s t m e n d z h = ap (λ (v : Float). add f v z) is ∙ to z
  where
    is : mul f (fin s m e) (fin t n d) ≡ fin (unlike s t) 0 (pos 0)
    is = unfold mul in (ap (λ (p : ℕ). round f (unlike s t) p (down e * down d)) h ∙ round_zero f (unlike s t) (down e * down d) (mul-pos (down_pos e) (down_pos d)))

    to : (z : Float) → add f (fin (unlike s t) 0 (pos 0)) z ≡ fma_of f (fin s m e) (fin t n d) z
    to nan = unfold add fma_of in refl
    to (inf u) = unfold add fma_of in refl
    to (fin u l g) = unfold add fma_of in zero_sum f (unlike s t) u (m * up e * (n * up d)) l (up g) (down e * down d) (down g) (mul-pos (down_pos e) (down_pos d)) (down_pos g) h

inf_plus_lem : (f : Format) (s : Bool) (z : Float) → add f (inf s) z ≡ inf_plus s z
unfolding add inf_plus
inf_plus_lem f s nan = refl
inf_plus_lem f s (inf t) = refl
inf_plus_lem f s (fin t n d) = refl

-- an infinity times a number that may be a zero
inf_times : (f : Format) (b s : Bool) (z : Float) → add f (cond b nan (inf s)) z ≡ cond b nan (inf_plus s z)
inf_times f true s z = unfold add in refl
inf_times f false s z = inf_plus_lem f s z

pub special_factor : (f : Format) (x y z : Float) → (is_special x ≡ true) ⊎ (is_special y ≡ true) → add f (mul f x y) z ≡ fma_of f x y z
special_factor f nan y z h = unfold mul add fma_of in refl
special_factor f (inf s) nan z h = unfold mul add fma_of in refl
special_factor f (inf s) (inf t) z h = unfold mul fma_of in inf_plus_lem f (unlike s t) z
special_factor f (inf s) (fin t n d) z h = unfold mul fma_of in inf_times f (eqb n 0) (unlike s t) z
special_factor f (fin s m e) nan z h = unfold mul add fma_of in refl
special_factor f (fin s m e) (inf t) z h = unfold mul fma_of in inf_times f (eqb m 0) (unlike s t) z
special_factor f (fin s m e) (fin t n d) z (inl h) = zero_product f s t m e n d z (ap (λ (k : ℕ). k * up e * (n * up d)) (eqb-true m 0 h) ∙ nought (up e) (n * up d))
  where
    nought : (a b : ℕ) → 0 * a * b ≡ 0
    nought a b = omega arith
special_factor f (fin s m e) (fin t n d) z (inr h) = zero_product f s t m e n d z (ap (λ (k : ℕ). m * up e * (k * up d)) (eqb-true n 0 h) ∙ nought (m * up e) (up d))
  where
    nought : (a b : ℕ) → a * (0 * b) ≡ 0
    nought a b = omega arith

-- ---- a NaN
nan_special : (x : Float) → is_nan x ≡ true → is_special x ≡ true
nan_special nan e = refl
nan_special (inf s) e = refl
nan_special (fin s m d) e = absurd (false≢true (unfold is_nan in e))

nan_addend : (f : Format) (x y z : Float) → is_nan z ≡ true → add f (mul f x y) z ≡ fma_of f x y z
nan_addend f x y nan e = plus (mul f x y) ∙ sym (third x y)
  where
    plus : (v : Float) → add f v nan ≡ nan
    plus nan = unfold add in refl
    plus (inf s) = unfold add in refl
    plus (fin s m e) = unfold add in refl

    either : (b : Bool) → cond b nan nan ≡ nan
    either true = refl
    either false = refl

    third : (x y : Float) → fma_of f x y nan ≡ nan
    third nan y = unfold fma_of in refl
    third (inf s) nan = unfold fma_of in refl
    third (inf s) (inf t) = unfold fma_of inf_plus in refl
    third (inf s) (fin t n d) = unfold fma_of inf_plus in either (eqb n 0)
    third (fin s m e) nan = unfold fma_of in refl
    third (fin s m e) (inf t) = unfold fma_of inf_plus in either (eqb m 0)
    third (fin s m e) (fin t n d) = unfold fma_of in refl
nan_addend f x y (inf s) e = absurd (false≢true (unfold is_nan in e))
nan_addend f x y (fin s m d) e = absurd (false≢true (unfold is_nan in e))

pub nan_operand : (f : Format) (x y z : Float) → (is_nan x || (is_nan y || is_nan z)) ≡ true → add f (mul f x y) z ≡ fma_of f x y z
nan_operand f x y z e = go (is_nan x) (is_nan y) refl refl e
  where
    go : (p q : Bool) → is_nan x ≡ p → is_nan y ≡ q → (p || (q || is_nan z)) ≡ true → add f (mul f x y) z ≡ fma_of f x y z
    go true q a b e = special_factor f x y z (inl (nan_special x a))
    go false true a b e = special_factor f x y z (inr (nan_special y b))
    go false false a b e = nan_addend f x y z e

-- where none of three is one
pub no_nan : (p q r : Bool) → (p || (q || r)) ≡ false → T (not p) × T (not q) × T (not r)
no_nan true q r e = absurd (false≢true (sym e))
no_nan false true r e = absurd (false≢true (sym e))
no_nan false false true e = absurd (false≢true (sym e))
no_nan false false false e = (tt, tt, tt)

-- ---- an addend that is special, with factors that are not
abbrev plus_zero : Float
plus_zero = fin false 0 (pos 0)

-- l is the addend's numerator
zero_added : (f : Format) (s u : Bool) (p c l d : ℕ) → 0 < p → 0 < c → 0 < d → l ≡ 0 → round f s p c ≡ sum f s (p * d) u (l * c) (c * d)
zero_added f s u p c l d P C D e = go (beq s u) refl
  where
    b : ℕ
    b = l * c

    none : b ≡ 0
    none = ap (λ (k : ℕ). k * c) e ∙ zero-mul c

    back : round f s p c ≡ round f s (p * d) (c * d)
    back = round_same f s p c (p * d) (c * d) C (mul-pos C D) (omega arith)

    go : (q : Bool) → beq s u ≡ q → round f s p c ≡ sum f s (p * d) u (l * c) (c * d)
    go true h = back ∙ ap (λ (k : ℕ). round f s k (c * d)) (plus (p * d) b none) ∙ sym (sum_at f s (p * d) u b (c * d) s (p * d + b) (exact_like s u (p * d) b h))
      where
        plus : (a b : ℕ) → b ≡ 0 → a ≡ a + b
        plus a b e = omega arith
    go false h =
        let smaller : b < p * d = below (p * d) b none (mul-pos P D) in
        back
        ∙ ap (λ (k : ℕ). round f s k (c * d)) (less (p * d) b none)
        ∙ sym (sum_at f s (p * d) u b (c * d) s (p * d - b) (exact_more s u (p * d) b h smaller))
      where
        less : (a b : ℕ) → b ≡ 0 → a ≡ a - b
        less a b e = omega arith

        below : (a b : ℕ) → b ≡ 0 → 0 < a → b < a
        below a b e h = omega arith

digit : (m : ℕ) → eqb m 0 ≡ false → 0 < m
digit zero e = absurd (eqb-false 0 0 e refl)
digit (suc m) e = zero-lt-suc m

-- what a test for zero finds
zero_test : (u : Bool) (l : ℕ) (g : ℤ) → eq (fin u l g) plus_zero ≡ eqb l 0
zero_test u l g =
    unfold eq in
    ap (λ (n : ℕ). eqb (l * up g * 1) n && (beq u false || eqb (l * up g * 1) 0)) (nought (down g))
    ∙ absorbed (beq u false) (eqb (l * up g * 1) 0)
    ∙ same l
  where
    nought : (d : ℕ) → 0 * 1 * d ≡ 0
    nought d = omega arith

    absorbed : (p q : Bool) → (q && (p || q)) ≡ q
    absorbed true true = refl
    absorbed false true = refl
    absorbed p false = refl

    same : (l : ℕ) → eqb (l * up g * 1) 0 ≡ eqb l 0
    same zero = ap (λ (n : ℕ). eqb n 0) (none (up g))
      where
        none : (u : ℕ) → 0 * u * 1 ≡ 0
        none u = omega arith
    same (suc l) =
        let p : 0 < suc l * up g = mul-pos (zero-lt-suc l) (up_pos g) in
        ne_eqb (suc l * up g * 1) 0 (λ z. omega arith) ∙ sym (ne_eqb (suc l) 0 (λ z. omega arith))

pub zero_addend : (f : Format) (x y z : Float) → is_special x ≡ false → is_special y ≡ false → eq z plus_zero ≡ true → mul f x y ≡ fma_of f x y z
zero_addend f nan y z X Y e = absurd (false≢true (sym X))
zero_addend f (inf s) y z X Y e = absurd (false≢true (sym X))
zero_addend f (fin s m d) nan z X Y e = absurd (false≢true (sym Y))
zero_addend f (fin s m d) (inf t) z X Y e = absurd (false≢true (sym Y))
zero_addend f (fin s m d) (fin t n k) nan X Y e = absurd (false≢true (unfold eq in e))
zero_addend f (fin s m d) (fin t n k) (inf u) X Y e = absurd (false≢true (unfold eq in e))
zero_addend f (fin s m d) (fin t n k) (fin u l g) X Y e =
    unfold mul fma_of in zero_added f (unlike s t) u (m * up d * (n * up k)) (down d * down k) (l * up g) (down g) above below (down_pos g) none
  where
    above : 0 < m * up d * (n * up k)
    above = mul-pos (mul-pos (digit m X) (up_pos d)) (mul-pos (digit n Y) (up_pos k))

    below : 0 < down d * down k
    below = mul-pos (down_pos d) (down_pos k)

    none : l * up g ≡ 0
    none = ap (λ (i : ℕ). i * up g) (eqb-true l 0 (sym (zero_test u l g) ∙ e)) ∙ zero-mul (up g)

pub infinite_addend : (f : Format) (x y z : Float) → is_special x ≡ false → is_special y ≡ false → is_special z ≡ true → eq z plus_zero ≡ false → z ≡ fma_of f x y z
infinite_addend f nan y z X Y Z e = absurd (false≢true (sym X))
infinite_addend f (inf s) y z X Y Z e = absurd (false≢true (sym X))
infinite_addend f (fin s m d) nan z X Y Z e = absurd (false≢true (sym Y))
infinite_addend f (fin s m d) (inf t) z X Y Z e = absurd (false≢true (sym Y))
infinite_addend f (fin s m d) (fin t n k) nan X Y Z e = unfold fma_of in refl
infinite_addend f (fin s m d) (fin t n k) (inf u) X Y Z e = unfold fma_of in refl
infinite_addend f (fin s m d) (fin t n k) (fin u l g) X Y Z e = absurd (false≢true (sym e ∙ zero_test u l g ∙ Z))
