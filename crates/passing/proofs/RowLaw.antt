-- Demand 3: "If two lists of at most 256 whole rows hold the same rows, in any order or number, recovery answers the same bits." Assumes nothing.
use Rattle.std.proofs.Common.{◌≡◌, refl, ap, ap₂, Some, None, List, T}
use mathlib.Core.Path.{fun_ext}
use lib.Ieee.{Float, binary64}
use lib.Ieee.Bits.{of_bits-fits}
use Rattle.number.specs.Leaves.{minimum, maximum}
use Rattle.number.proofs.Folds.{Within}
use Rattle.number.proofs.Extremes.{Fits, minimum_lattice, maximum_lattice}
use Rattle.rows.specs.Rows.{Row, rows_of, whole_rows}
use Rattle.rows.proofs.Within.{one_truth}
use Rattle.number.specs.Doubles as doubles
use Rattle.limits.specs.Bounds.{lower, upper}
use Rattle.rows.specs.Row.{admits}
use Rattle.certificates.specs.Certificate.{passes, worse_normalized, worse_raw, Certificate, certificate}
use Rattle.search.specs.Search.{Asked, searched}
use Rattle.limits.specs.Projection.{narrowed, projected, unreachable, flat}
use Rattle.rows.specs.Row.{rows_no}
use Rattle.search.specs.Cap.{after_cap, with_cap}
use Rattle.topp2_ra.specs.Recovery.{request_no, recovered}
use Rattle.rows.specs.Row.{unfit, unmeetable}
use Rattle.limits.specs.declared.request.Request.{Request}
use Rattle.limits.specs.declared.projection.Span.{Span}
use Rattle.passing.specs.Demand.{SameRows, Doubles}
use Rattle.passing.proofs.Gathered.{any_same, all_same, fold_rows}
use Rattle.passing.proofs.Brought.{as_normalized, as_raw, as_low, as_high, brings_normalized, brings_raw, brings_low, brings_high}
use Rattle.passing.proofs.Brought.{normalized_held, raw_held, low_held, high_held, lower_fits, upper_fits}

-- ---- the certificate and the projected ends

module _ (q : Request) (l m : List Row) (to : Within l m) (back : Within m l) where
  abbrev tol : Float
  tol = q.tolerances.feas

  abbrev a : Float
  a = q.a_prev

  certificate_same : (x : Float) → certificate q l x ≡ certificate q m x
  unfolding certificate passes
  certificate_same x =
      let zero-fits = of_bits-fits binary64 0 in
      rw (
        all_same (admits tol a x) l m to back,
        fold_rows (λ (s : Float). s) maximum (worse_normalized a x) (as_normalized tol a x) (brings_normalized tol a x)
            (Fits binary64) (maximum_lattice binary64) (normalized_held tol a x) doubles.zero zero-fits l m to back,
        fold_rows (λ (s : Float). s) maximum (worse_raw a x) (as_raw tol a x) (brings_raw tol a x)
            (Fits binary64) (maximum_lattice binary64) (raw_held tol a x) doubles.zero zero-fits l m to back,
      )

  projected_same : Doubles q → projected q l ≡ projected q m
  projected_same D =
      let start : Span = record { low = lower q; high = upper q } in
      ap₂ (λ (a b : Float). record { low = a; high = b })
      (fold_rows (λ (s : Span). s.low) maximum (narrowed tol a) (as_low tol a) (brings_low tol a)
      (Fits binary64) (maximum_lattice binary64) (low_held tol a) start (lower_fits q D) l m to back)
      (fold_rows (λ (s : Span). s.high) minimum (narrowed tol a) (as_high tol a) (brings_high tol a)
      (Fits binary64) (minimum_lattice binary64) (high_held tol a) start (upper_fits q D) l m to back)

  -- the search asks the rows for certificates only
  searched_same : (s : Span) → searched (certificate q l) s ≡ searched (certificate q m) s
  searched_same s = ap (λ (cert : Asked). searched cert s) (fun_ext certificate_same)

  cap_same : Doubles q → (c : Certificate) → after_cap q l c ≡ after_cap q m c
  unfolding after_cap
  cap_same D (Some f) = refl
  cap_same D None = rw (any_same (unreachable tol a) l m to back, any_same (flat tol a) l m to back, projected_same D, searched_same (projected q m))

  capped_same : Doubles q → with_cap q l ≡ with_cap q m
  unfolding with_cap
  capped_same D = rw (certificate_same (upper q), cap_same D (certificate q m (upper q)))

  numbers_same : rows_no tol l ≡ rows_no tol m
  unfolding rows_no
  numbers_same = rw (any_same (unfit tol) l m to back, any_same unmeetable l m to back)

-- refusals 1 to 4 look at the list's length alone
requests_same : (q : Request) (l m : List Float) → T (whole_rows l) → T (whole_rows m) → request_no q l ≡ request_no q m
unfolding request_no
requests_same q l m L M = rw (one_truth (whole_rows l) (whole_rows m) (λ t. M) (λ t. L))

-- "recovery answers the same bits": the refusal number, or the speed, both figures and the count
pub row_law : (q : Request) (l m : List Float) → Doubles q → T (whole_rows l) → T (whole_rows m) → SameRows l m → recovered q l ≡ recovered q m
unfolding recovered
row_law q l m D L M S =
    rw (requests_same q l m L M, numbers_same q (rows_of l) (rows_of m) S.to S.back, capped_same q (rows_of l) (rows_of m) S.to S.back D)
