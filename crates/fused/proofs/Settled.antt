-- Where the exact product need not be known: the rounded product lies strictly between two values, so the exact one lies
-- between them too, since rounding keeps the order and a value of the format is its own rounding.
-- The sum with the exact product is then between the sums with the two; where those are one value and no zero, it is that value.
-- Over any format. Assumes nothing.
use mathlib.Core.Path.{◌≡◌, refl, sym, ◌∙◌}
use mathlib.Core.Logic.{◌⊎◌, inl, inr}
use mathlib.Core.Bool.{Bool, true, false, not, ◌&&◌, cond}
use Prim.Native.Nat.{ℕ, ◌+◌, ◌*◌, ◌<◌}
use native.Mathlib.Nat.{mul-pos}
use native.Mathlib.Omega.{arith}
use lib.Dec.{T}
use lib.Ieee.{Float, nan, inf, fin, Format, up, down, unlike, add, mul, le, lt, eq, ne, fits}
use lib.Ieee.Fits.{nan-fits, inf-fits, add-fits}
use lib.Ieee.Scale.{finite}
use lib.Ieee.Positive.{den, den_pos}
use Rattle.number.proofs.Fractions.{plus_of, minus_of, plus_times_lem, minus_times_lem, plus_part, minus_part}
use Rattle.number.proofs.Order.{holds, number, nought, least, greatest, le_number, le_reflexive, le_transitive, le_antisymmetric, eq_le, eq_ge, lt_le, lt_not_le, strictly_finite}
use Rattle.number.proofs.Rounded.{Rounds, rounds_fits, sum_rounds, add_rounds, mul_rounds, rounds_mono, rounds_lt}
use Rattle.number.proofs.Monotone.{add_commutative, add_fractions, add_infinite, mul_finite, rounds_number}
use Rattle.number.proofs.Patterns.{own_rounds}
use Rattle.number.proofs.Picks.{equal_but_zero}
use Rattle.fused.specs.Fused.{fma_of}

-- ---- what is rounded

-- ±a * ±b as a difference
abbrev plus_times : ℕ → ℕ → ℕ → ℕ → ℕ
plus_times p n p' n' = p * p' + n * n'

abbrev minus_times : ℕ → ℕ → ℕ → ℕ → ℕ
minus_times p n p' n' = p * n' + n * p'

times_plus : (s : Bool) (a : ℕ) (t : Bool) (b : ℕ) → plus_of (unlike s t) (a * b) ≡ plus_times (plus_of s a) (minus_of s a) (plus_of t b) (minus_of t b)
times_plus true a true b = omega arith
times_plus true a false b = omega arith
times_plus false a true b = omega arith
times_plus false a false b = omega arith

times_minus : (s : Bool) (a : ℕ) (t : Bool) (b : ℕ) → minus_of (unlike s t) (a * b) ≡ minus_times (plus_of s a) (minus_of s a) (plus_of t b) (minus_of t b)
times_minus true a true b = omega arith
times_minus true a false b = omega arith
times_minus false a true b = omega arith
times_minus false a false b = omega arith

-- the exact product of finite values, as a fraction over den x * den y
abbrev plus_product : Float → Float → ℕ
plus_product x y = plus_times (plus_part x) (minus_part x) (plus_part y) (minus_part y)

abbrev minus_product : Float → Float → ℕ
minus_product x y = minus_times (plus_part x) (minus_part x) (plus_part y) (minus_part y)

fma_rounds : (f : Format) (x y z : Float) → T (finite x) → T (finite y) → T (finite z)
    → Rounds f (fma_of f x y z) (plus_product x y * den z + plus_part z * (den x * den y)) (minus_product x y * den z + minus_part z * (den x * den y)) (den x * den y * den z)
fma_rounds f nan y z X Y Z = absurd X
fma_rounds f (inf s) y z X Y Z = absurd X
fma_rounds f (fin s m e) nan z X Y Z = absurd Y
fma_rounds f (fin s m e) (inf t) z X Y Z = absurd Y
fma_rounds f (fin s m e) (fin t n d) nan X Y Z = absurd Z
fma_rounds f (fin s m e) (fin t n d) (inf u) X Y Z = absurd Z
fma_rounds f (fin s m e) (fin t n d) (fin u l g) X Y Z =
    rw (sym (times_plus s (m * up e) t (n * up d)), sym (times_minus s (m * up e) t (n * up d)))
    (simp (plus_times_lem, minus_times_lem) (unfold fma_of in sum_rounds f (unlike s t) (m * up e * (n * up d) * down g) u (l * up g * (down e * down d)) (down e * down d * down g)))

-- an infinite addend stays what it is
fma_infinite : (f : Format) (x y : Float) (u : Bool) → T (finite x) → T (finite y) → fma_of f x y (inf u) ≡ inf u
fma_infinite f nan y u X Y = absurd X
fma_infinite f (inf s) y u X Y = absurd X
fma_infinite f (fin s m e) nan u X Y = absurd Y
fma_infinite f (fin s m e) (inf t) u X Y = absurd Y
fma_infinite f (fin s m e) (fin t n d) u X Y = unfold fma_of in refl

-- ---- below and above: a value of the format on one side of the rounded product is not on the other side of the exact one (`rounds-lt`)

module _ (f : Format) (x y : Float) (X : T (finite x)) (Y : T (finite y)) where
  D : 0 < den x * den y
  D = mul-pos (den_pos x) (den_pos y)

  sum_infinite : (k : Float) (u : Bool) → T (number (add f k (inf u))) → add f k (inf u) ≡ inf u
  sum_infinite k u n = add_commutative f k (inf u) ∙ add_infinite f u k (rw (add_commutative f k (inf u)) at n)

  sum_nan : (k : Float) → T (number (add f k nan)) → ⊥
  sum_nan k n = unfold add in (rw (add_commutative f k nan) at n)

  lower : (l z : Float) → T (fits f l) → T (lt l (mul f x y)) → T (number (add f l z)) → T (le (add f l z) (fma_of f x y z))
  lower l nan F h n = absurd (sum_nan l n)
  lower l (inf u) F h n = rw (sum_infinite l u n, fma_infinite f x y u X Y) (le_reflexive (inf u) tt)
  lower nan (fin u m e) F h n = absurd (unfold lt in h)
  lower (inf true) (fin u m e) F h n = unfold add in least (fma_of f x y (fin u m e)) (rounds_number f (fma_of f x y (fin u m e)) _ _ _ (fma_rounds f x y (fin u m e) X Y tt))
  lower (inf false) (fin u m e) F h n = absurd (lt_not_le (inf false) (mul f x y) h (greatest (mul f x y) (le_number (inf false) (mul f x y) (lt_le (inf false) (mul f x y) h)).1))
  lower (fin s k d) (fin u m e) F h n =
      let l = fin s k d in
      let z = fin u m e in
      let upto = rounds_lt f l (mul f x y) _ _ (den l) _ _ (den x * den y) (den_pos l) D (own_rounds f l F tt) (mul_rounds f x y X Y) h in
      rounds_mono f (add f l z) (fma_of f x y z) _ _ (den l * den z) _ _ (den x * den y * den z)
      (mul-pos (den_pos l) (den_pos z)) (mul-pos D (den_pos z)) (add_rounds f l z tt tt) (fma_rounds f x y z X Y tt)
      (add_fractions (plus_part l) (minus_part l) (den l) (plus_product x y) (minus_product x y) (den x * den y) (plus_part z) (minus_part z) (den z) upto)

  fma_fits : (z : Float) → T (fits f (fma_of f x y z))
  fma_fits nan = go x y X Y
    where
      go : (x y : Float) → T (finite x) → T (finite y) → T (fits f (fma_of f x y nan))
      go nan y X Y = absurd X
      go (inf s) y X Y = absurd X
      go (fin s m e) nan X Y = absurd Y
      go (fin s m e) (inf t) X Y = absurd Y
      go (fin s m e) (fin t n d) X Y = unfold fma_of in nan-fits f
  fma_fits (inf u) = rw (fma_infinite f x y u X Y) (inf-fits f u)
  fma_fits (fin u m e) = rounds_fits f (fma_of f x y (fin u m e)) _ _ _ (fma_rounds f x y (fin u m e) X Y tt)

  upper : (h z : Float) → T (fits f h) → T (lt (mul f x y) h) → T (number (add f h z)) → T (le (fma_of f x y z) (add f h z))
  upper h nan F k n = absurd (sum_nan h n)
  upper h (inf u) F k n = rw (sum_infinite h u n, fma_infinite f x y u X Y) (le_reflexive (inf u) tt)
  upper h (fin u m e) F k n = go h F k
    where
      z : Float
      z = fin u m e

      go : (h : Float) → T (fits f h) → T (lt (mul f x y) h) → T (le (fma_of f x y z) (add f h z))
      go nan F k = absurd (le_number (mul f x y) nan (lt_le (mul f x y) nan k)).1
      go (inf true) F k = absurd (lt_not_le (mul f x y) (inf true) k (least (mul f x y) (le_number (mul f x y) (inf true) (lt_le (mul f x y) (inf true) k)).0))
      go (inf false) F k = unfold add in greatest (fma_of f x y z) (rounds_number f (fma_of f x y z) _ _ _ (fma_rounds f x y z X Y tt))
      go (fin s j d) F k =
          let h = fin s j d in
          let upto = rounds_lt f (mul f x y) h _ _ (den x * den y) _ _ (den h) D (den_pos h) (mul_rounds f x y X Y) (own_rounds f h F tt) k in
          rounds_mono f (fma_of f x y z) (add f h z) _ _ (den x * den y * den z) _ _ (den h * den z)
          (mul-pos D (den_pos z)) (mul-pos (den_pos h) (den_pos z)) (fma_rounds f x y z X Y tt) (add_rounds f h z tt tt)
          (add_fractions (plus_product x y) (minus_product x y) (den x * den y) (plus_part h) (minus_part h) (den h) (plus_part z) (minus_part z) (den z) upto)

-- ---- one value

-- r is no more than the sum with what is below the product, and no less than the sum with what is above it
enclosed : (f : Format) (x y z l h r : Float) → T (fits f l) → T (fits f h) → T (fits f r) → T (lt l (mul f x y)) → T (lt (mul f x y) h)
    → T (le r (add f l z)) → T (le (add f h z) r) → (T (eq r nought) → ⊥) → r ≡ fma_of f x y z
enclosed f x y z l h r L H R a b c d n =
    let v = mul_finite f x y (strictly_finite l (mul f x y) h a b) in
    let w = fma_of f x y z in
    let i = le_transitive r (add f l z) w c (lower f x y v.0 v.1 l z L a (le_number r (add f l z) c).1) in
    let j = le_transitive w (add f h z) r (upper f x y v.0 v.1 h z H b (le_number (add f h z) r d).0) d in
    equal_but_zero f r w R (fma_fits f x y v.0 v.1 z) (le_antisymmetric r w i j) n

either : (a p b : Float) → cond (lt a p) (lt p b) (lt b p && lt p a) ≡ true → (T (lt a p) × T (lt p b)) ⊎ (T (lt b p) × T (lt p a))
either a p b h = go (lt a p) (lt p b) (lt b p) (lt p a) h
  where
    go : (i j k l : Bool) → cond i j (k && l) ≡ true → (T i × T j) ⊎ (T k × T l)
    go true j k l h = inl (tt, holds h)
    go false j true l h = inr (tt, holds h)
    go false j false l h = absurd (holds h)

-- The code's tests: a and b on both sides of the rounded product, and one sum with both, which is no zero.
pub settled : (f : Format) (x y z a b : Float) → T (fits f a) → T (fits f b)
    → (let p = mul f x y in cond (lt a p) (lt p b) (lt b p && lt p a)) ≡ true
    → eq (add f a z) (add f b z) ≡ true → ne (add f a z) nought ≡ true → add f a z ≡ fma_of f x y z
settled f x y z a b F G t h n = elim (either a (mul f x y) b t) [
  | inl (i, j) ↦ enclosed f x y z a b r F G (add-fits f a z) i j (le_reflexive r (le_number r s (eq_le r s e)).0) (eq_ge r s e) no_zero
  | inr (i, j) ↦ enclosed f x y z b a r G F (add-fits f a z) i j (eq_le r s e) (le_reflexive r (le_number r s (eq_le r s e)).0) no_zero
]
  where
    r : Float
    r = add f a z

    s : Float
    s = add f b z

    e : T (eq r s)
    e = holds h

    no_zero : T (eq r nought) → ⊥
    no_zero k = unfold ne in go (eq r nought) n k
      where
        go : (b : Bool) → not b ≡ true → T b → ⊥
        go true m k = holds m
        go false m k = k
