-- How the next value down is found: by the pattern of a value above zero less one, or of one below zero and one, which are both patterns of numbers. Assumes nothing.
use Rattle.std.proofs.Common.{◌≡◌, ℕ, zero, suc, ◌+◌, ◌-◌, ◌*◌, ◌<◌, ◌≤◌, true, false, not, ◌||◌, T, eqb, ℤ, refl, ap, ◌∙◌, inl, inr, add_assoc, mod-eq_of_lt, zero-lt-suc, mul-pos, zero-add, arith, eqb→eq}
use mathlib.Core.Bool.{beq}
use lib.Ieee.{Float, nan, inf, fin, Format, low, hid, ones, top, up, down, minus, lt, eq, fits, nan_bits, of_bits, to_bits}
use lib.Ieee.Fits.{and_l, up_pos}
use lib.Ieee.Scale.{finite}
use Rattle.number.specs.Leaves.{next_down}
use Rattle.number.proofs.Patterns.{below_sign, infinite_pos, infinite_written, sign_off, not_nan_bits, pattern_of, pattern_pos}
use Rattle.number.proofs.Fractions.{AtMost→le, lt→Below}
use Rattle.number.proofs.Order.{below_zero, nought, lt_number, lt_not_le, lt_or_le, le_split, eq_symmetric, strictly_finite}

-- n is a number's pattern, and it is read as the next value down
pub record Down (f : Format) (x : Float) (n : ℕ) : Type 0 where
  pub no_nan : T (not (nan_bits f n))
  pub reads : of_bits f n ≡ next_down f x

-- ---- above zero

pub data Above : Float → Type 0 where
  infinite : Above (inf false)
  positive : (m : ℕ) (e : ℤ) → Above (fin false (suc m) e)

above : (x : Float) → T (lt nought x) → Above x
above nan h = absurd (lt_number nought nan h).1
above (inf true) h = absurd (lt_not_le nought (inf true) h (below_zero (inf true) nought tt tt))
above (inf false) h = infinite
above (fin true m e) h = absurd (lt_not_le nought (fin true m e) h (below_zero (fin true m e) nought tt tt))
above (fin false zero e) h = absurd (omega (arith, lt→Below nought (fin false zero e) tt tt h))
above (fin false (suc m) e) h = positive m e

above_bits : (f : Format) (x : Float) → T (fits f x) → Above x → (0 < to_bits f x) × (to_bits f x ≤ ones f * hid f)
above_bits f x F infinite = rw (infinite_written f false ∙ zero-add (ones f * hid f)) (infinite_pos f, omega arith)
above_bits f x F (positive m e) = let p = pattern_of f false (suc m) e F in rw p.2 (omega (arith, pattern_pos f false m e p.0 p.3), omega (arith, p.1))

above_next : (f : Format) (x : Float) → Above x → of_bits f (to_bits f x - 1) ≡ next_down f x
unfolding next_down
above_next f x infinite = refl
above_next f x (positive m e) = refl

pub down_above : (f : Format) (x : Float) → T (fits f x) → T (lt nought x) → (0 < to_bits f x) × Down f x (to_bits f x - 1)
down_above f x F h =
    let b = above_bits f x F (above x h) in
    let n = to_bits f x - 1 in
    (b.0, record { no_nan = not_nan_bits f n (rw (mod-eq_of_lt (below_sign f n (omega arith))) (omega arith)); reads = above_next f x (above x h) })

-- ---- zero

pub down_zero : (f : Format) (x : Float) → T (eq x nought) → fin true 1 (minus 0 (low f)) ≡ next_down f x
unfolding next_down eq
down_zero f nan h = absurd h
down_zero f (inf s) h = absurd h
down_zero f (fin s zero e) h = refl
down_zero f (fin s (suc m) e) h =
    let a = suc m * up e in
    absurd (omega (arith, mul-pos (zero-lt-suc m) (up_pos e), eqb→eq (a * 1) (0 * down e) (and_l (eqb (a * 1) (0 * down e)) (beq s false || eqb (a * 1) 0) h)))

-- ---- below zero

pub data Under : Float → Type 0 where
  negative : (m : ℕ) (e : ℤ) → Under (fin true (suc m) e)

under : (x : Float) → T (finite x) → T (lt x nought) → Under x
under nan X h = absurd X
under (inf s) X h = absurd X
under (fin false m e) X h = absurd (lt_not_le (fin false m e) nought h (AtMost→le nought (fin false m e) tt tt (omega arith)))
under (fin true zero e) X h = absurd (omega (arith, lt→Below (fin true zero e) nought tt tt h))
under (fin true (suc m) e) X h = negative m e

under_next : (f : Format) (m : ℕ) (e : ℤ) → of_bits f (to_bits f (fin true (suc m) e) + 1) ≡ next_down f (fin true (suc m) e)
unfolding next_down
under_next f m e = refl

under_down : (f : Format) (x : Float) → T (fits f x) → Under x → (to_bits f x + 1 < 2 * top f) × Down f x (to_bits f x + 1)
under_down f x F (negative m e) =
    let p = pattern_of f true (suc m) e F in
    let b = p.0 + 1 in
    let B : b ≤ ones f * hid f = omega (arith, p.1) in
    let n = to_bits f (fin true (suc m) e) + 1 in
    let at : n ≡ top f + b = ap (λ (k : ℕ). k + 1) p.2 ∙ add_assoc (top f) p.0 1 in
    (omega (arith, below_sign f b B), record { no_nan = not_nan_bits f n (rw (at, sign_off f true b (below_sign f b B)) B); reads = under_next f m e })

-- neither above zero nor zero, and above -infinity
pub down_below : (f : Format) (x : Float) → T (fits f x) → (T (lt nought x) → ⊥) → (T (eq x nought) → ⊥) → T (lt (inf true) x)
    → (to_bits f x + 1 < 2 * top f) × Down f x (to_bits f x + 1)
down_below f x F a z i =
    let l : T (lt x nought) = elim (lt_or_le x nought (lt_number (inf true) x i).1 tt) [
      | inl k ↦ k
      | inr g ↦ elim (le_split nought x g) [ inl k ↦ absurd (a k) | inr e ↦ absurd (z (eq_symmetric nought x e)) ]
    ] in
    under_down f x F (under x (strictly_finite (inf true) x nought i l) l)

-- ---- -infinity and NaN

pub down_stays : (f : Format) (x : Float) → (T (lt (inf true) x) → ⊥) → x ≡ next_down f x
unfolding next_down lt
down_stays f nan h = refl
down_stays f (inf true) h = refl
down_stays f (inf false) h = absurd (h tt)
down_stays f (fin s m e) h = absurd (h tt)
