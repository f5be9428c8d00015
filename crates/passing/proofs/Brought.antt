-- What each row brings to the worst figures and to the projected ends: values to a maximum or a minimum, so that `Gathered` says what follows. Assumes nothing.
use mathlib.Core.Path.{◌≡◌, refl, subst}
use mathlib.Core.List.{List, [], ◌∷◌, foldl}
use mathlib.Core.Bool.{Bool, true, false, cond}
use lib.Dec.{T}
use lib.Ieee.{Float, binary64, le, lt, of_bits, fits}
use lib.Ieee.Bits.{of_bits-fits}
use lib.Ieee.Fits.{sub-fits, div-fits}
use Rattle.number.specs.Leaves.{minimum, maximum}
use Rattle.number.proofs.Order.{number, le_number, le_transitive}
use Rattle.number.proofs.Folds.{All}
use Rattle.number.proofs.Extremes.{Fits, minimum_lattice, maximum_lattice, maximum_ge}
use Rattle.rows.specs.Rows.{Row}
use Rattle.number.specs.Doubles as doubles
use Rattle.number.specs.Doubles.{◌⊘◌}
use Rattle.limits.specs.Bounds.{lower, upper}
use Rattle.rows.specs.Row.{empty, normalized, raw, raw_normalized}
use Rattle.limits.specs.Projection.{reach, incline, cut_by, narrowed, projected}
use Rattle.limits.specs.declared.request.Request.{Request}
use Rattle.limits.specs.declared.projection.Span.{Span}
use Rattle.certificates.specs.Certificate.{worse_normalized, worse_raw}
use Rattle.passing.specs.Demand.{Doubles}
use Rattle.passing.proofs.Gathered.{fold_keeps}

module _ (tol a : Float) where
  -- a row's end
  abbrev end : Row → Float
  end w = reach tol a w ⊘ incline w

  -- ---- what a row brings; an empty row brings nothing

  abbrev pub as_normalized : Float → Row → List Float
  as_normalized x w = cond (empty w) [] (normalized a x w ∷ raw_normalized a x w ∷ [])

  abbrev pub as_raw : Float → Row → List Float
  as_raw x w = cond (empty w) [] (raw a x w ∷ [])

  abbrev pub as_low : Row → List Float
  as_low w = cond (empty w) [] (cond (lt doubles.zero (incline w)) [] (cond (lt (incline w) doubles.zero) (end w ∷ []) []))

  abbrev pub as_high : Row → List Float
  as_high w = cond (empty w) [] (cond (lt doubles.zero (incline w)) (end w ∷ []) [])

  pub brings_normalized : (x s : Float) (w : Row) → worse_normalized a x s w ≡ foldl maximum s (as_normalized x w)
  unfolding worse_normalized
  brings_normalized x s w = go (empty w)
    where
      go : (b : Bool) → cond b s (maximum (maximum s (normalized a x w)) (raw_normalized a x w)) ≡ foldl maximum s (cond b [] (normalized a x w ∷ raw_normalized a x w ∷ []))
      go true = refl
      go false = refl

  pub brings_raw : (x s : Float) (w : Row) → worse_raw a x s w ≡ foldl maximum s (as_raw x w)
  unfolding worse_raw
  brings_raw x s w = go (empty w)
    where
      go : (b : Bool) → cond b s (maximum s (raw a x w)) ≡ foldl maximum s (cond b [] (raw a x w ∷ []))
      go true = refl
      go false = refl

  -- `narrowed` by its three tests: empty, incline above zero, incline below zero
  abbrev step : Span → Row → Bool → Bool → Bool → Span
  step s w e p n = cond e s (cond p (record { low = s.low; high = minimum s.high (end w) }) (cond n (record { low = maximum s.low (end w); high = s.high }) s))

  pub brings_low : (s : Span) (w : Row) → (narrowed tol a s w).low ≡ foldl maximum s.low (as_low w)
  unfolding narrowed cut_by
  brings_low s w = go (empty w) (lt doubles.zero (incline w)) (lt (incline w) doubles.zero)
    where
      go : (e p n : Bool) → (step s w e p n).low ≡ foldl maximum s.low (cond e [] (cond p [] (cond n (end w ∷ []) [])))
      go true p n = refl
      go false true n = refl
      go false false true = refl
      go false false false = refl

  pub brings_high : (s : Span) (w : Row) → (narrowed tol a s w).high ≡ foldl minimum s.high (as_high w)
  unfolding narrowed cut_by
  brings_high s w = go (empty w) (lt doubles.zero (incline w)) (lt (incline w) doubles.zero)
    where
      go : (e p n : Bool) → (step s w e p n).high ≡ foldl minimum s.high (cond e [] (cond p (end w ∷ []) []))
      go true p n = refl
      go false true n = refl
      go false false true = refl
      go false false false = refl

  -- ---- all of it was computed, so that it is a double

  abbrev pub Held : List Float → Type 0
  Held = All (Fits binary64)

  one_of : (b : Bool) (l m : List Float) → Held l → Held m → Held (cond b l m)
  one_of true l m h k = h
  one_of false l m h k = k

  end_held : (w : Row) → Held (end w ∷ [])
  end_held w = (div-fits binary64 (reach tol a w) (incline w), tt)

  pub normalized_held : (x : Float) (w : Row) → Held (as_normalized x w)
  normalized_held x w = one_of (empty w) [] (normalized a x w ∷ raw_normalized a x w ∷ []) tt (sub-fits binary64 _ _, (div-fits binary64 _ _, tt))

  pub raw_held : (x : Float) (w : Row) → Held (as_raw x w)
  raw_held x w = one_of (empty w) [] (raw a x w ∷ []) tt (sub-fits binary64 _ _, tt)

  pub low_held : (w : Row) → Held (as_low w)
  low_held w = one_of (empty w) [] _ tt (one_of (lt doubles.zero (incline w)) [] _ tt (one_of (lt (incline w) doubles.zero) (end w ∷ []) [] (end_held w) tt))

  pub high_held : (w : Row) → Held (as_high w)
  high_held w = one_of (empty w) [] _ tt (one_of (lt doubles.zero (incline w)) (end w ∷ []) [] (end_held w) tt)

-- ---- the bounds and the projected ends

module _ (q : Request) (D : Doubles q) where
  abbrev tol : Float
  tol = q.tolerances.feas

  abbrev a : Float
  a = q.a_prev

  abbrev ends : Span
  ends = record { low = lower q; high = upper q }

  pub lower_fits : T (fits binary64 (lower q))
  lower_fits = (maximum_lattice binary64).closed q.curr.interval.lower doubles.zero D.lower_fits (of_bits-fits binary64 0)

  pub upper_fits : T (fits binary64 (upper q))
  upper_fits = (minimum_lattice binary64).closed q.curr.interval.upper q.curr.cap D.upper_fits D.cap_fits

  pub high_fits : (rows : List Row) → T (fits binary64 (projected q rows).high)
  high_fits =
      fold_keeps (λ (s : Span). s.high) minimum (narrowed tol a) (as_high tol a) (brings_high tol a)
      (Fits binary64) (Fits binary64) (minimum_lattice binary64).closed (high_held tol a) ends upper_fits

  zero_number : T (number doubles.zero)
  unfolding of_bits
  zero_number = tt

  -- "lower = max(current lower, +0)"
  lower_from_zero : T (le doubles.zero (lower q))
  lower_from_zero =
      subst (λ (x : Float). T (le doubles.zero x)) ((maximum_lattice binary64).commutative doubles.zero q.curr.interval.lower (of_bits-fits binary64 0) D.lower_fits)
      (maximum_ge doubles.zero q.curr.interval.lower zero_number)

  pub low_from_zero : (rows : List Row) → T (le doubles.zero (projected q rows).low)
  low_from_zero =
      fold_keeps (λ (s : Span). s.low) maximum (narrowed tol a) (as_low tol a) (brings_low tol a) (λ (x : Float). T (le doubles.zero x)) (Fits binary64)
      (λ x y p k. le_transitive doubles.zero x (maximum x y) p (maximum_ge x y (le_number doubles.zero x p).1)) (low_held tol a) ends lower_from_zero
