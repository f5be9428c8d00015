-- The certificate is what one row after another makes of it, whatever the rows are: a row that is refused, with 5 or 6, admits no speed.
use Rattle.std.proofs.Common.{◌≡◌, refl, sym, ap, ap₂, subst, ◌∙◌, Bool, true, false, not, ◌&&◌, ◌||◌, cond, ◌⊎◌, inl, inr, List, [], ◌∷◌, T, Some, None, Ok, Err}
use lib.Ieee.{Float, binary64, lt, le, of_bits}
use lib.Ieee.Fits.{and_l, and_r}
use lib.Ieee.Scale.{finite}
use Rattle.number.specs.Leaves.{maximum}
use Rattle.number.specs.Doubles.{zero, ◌⊕◌, ◌⊗◌}
use Rattle.number.proofs.Order.{holds, fails, number, finite_number, lt_or_le, lt_not_le}
use Rattle.number.proofs.Monotone.{add_finite, sub_finite, mul_finite}
use Rattle.rows.specs.Rows.{Row, fold, all}
use Rattle.rows.specs.Row.{norm, empty, inv, raw_tol, four_finite, numbers_finite, normalized, raw, raw_normalized, all_within, admits, unfit, unmeetable}
use Rattle.rows.specs.Reading.{Reading, block_of, reading_of}
use Rattle.rows.specs.Judging.{residuals_of, judged}
use Rattle.rows.proofs.Within.{one_truth, within_all}
use Rattle.limits.specs.Bounds.{span_of}
use Rattle.limits.specs.declared.request.Request.{Request}
use Rattle.limits.specs.declared.projection.Span.{Span}
use Rattle.certificates.specs.Certificate.{between, passes, worse_normalized, worse_raw, figures, Certificate, certificate}
use Rattle.certificates.specs.RowByRow.{inside, worse, worsened, counted, counted_reading, counted_row}
use Rattle.certificates.proofs.Worst.{from_zero, worse_is, worse_from, zero_from}

-- ---- what is known of a row that is not refused

module _ (tol : Float) (w : Row) where
  module _ (h : unfit tol w ≡ false) where
    fit_numbers : numbers_finite w ≡ true
    unfolding unfit
    fit_numbers = go (numbers_finite w) (empty w || (finite (inv w) && finite (raw_tol tol w))) h
      where
        go : (n s : Bool) → not (n && s) ≡ false → n ≡ true
        go true s h = refl
        go false s h = absurd (fails h tt)

    -- where it is not empty, its tolerance is finite
    fit_tolerance : empty w ≡ false → T (finite (raw_tol tol w))
    unfolding unfit
    fit_tolerance e = go (numbers_finite w) (finite (inv w)) (finite (raw_tol tol w)) (simp e at h)
      where
        go : (n i t : Bool) → not (n && (i && t)) ≡ false → T t
        go true true true h = tt
        go true true false h = absurd (fails h tt)
        go true false t h = absurd (fails h tt)
        go false i t h = absurd (fails h tt)

  -- a row with finite numbers, and a finite inverse and tolerance where it is not empty
  fits_so : T (numbers_finite w) → (T (not (empty w)) → T (finite (inv w)) × T (finite (raw_tol tol w))) → unfit tol w ≡ false
  unfolding unfit
  fits_so n h = go (numbers_finite w) (empty w) (finite (inv w)) (finite (raw_tol tol w)) n h
    where
      go : (n e i t : Bool) → T n → (T (not e) → T i × T t) → not (n && (e || (i && t))) ≡ false
      go false e i t n h = absurd n
      go true true i t n h = refl
      go true false i t n h = two i t (h tt).0 (h tt).1
        where
          two : (i t : Bool) → T i → T t → not (i && t) ≡ false
          two true true a b = refl
          two true false a b = absurd b
          two false t a b = absurd a

-- ---- the verdict of a row, by how it is read

zero_number : T (number zero)
unfolding of_bits
zero_number = tt

module _ (tol a x : Float) (w : Row) where
  abbrev all_are : Bool
  all_are = all_within tol (raw_tol tol w) (normalized a x w) (raw_normalized a x w) (raw a x w)

  -- a finite residual has a finite inverse
  inverse_finite : T (finite (normalized a x w)) → T (finite (inv w))
  inverse_finite h =
      let sum = (w.curr ⊗ inv w) ⊗ x ⊕ (w.prev ⊗ inv w) ⊗ a in
      let first = (sub_finite binary64 sum (w.rhs ⊗ inv w) h).0 in
      let product = (add_finite binary64 ((w.curr ⊗ inv w) ⊗ x) ((w.prev ⊗ inv w) ⊗ a) first).0 in
      (mul_finite binary64 w.curr (inv w) (mul_finite binary64 (w.curr ⊗ inv w) x product).0).1

  admitted_fit : T (admits tol a x w) → unfit tol w ≡ false
  unfolding admits all_within
  admitted_fit h =
      let v = cond (empty w) (le zero w.rhs) all_are in
      fits_so tol w (and_l (numbers_finite w) v h) (λ e. finites (empty w) (and_r (numbers_finite w) v h) e)
    where
      four : Bool
      four = four_finite (raw_tol tol w) (normalized a x w) (raw_normalized a x w) (raw a x w)

      rest : Bool
      rest = le (normalized a x w) tol && (le (raw_normalized a x w) tol && le (raw a x w) (raw_tol tol w))

      finites : (b : Bool) → T (cond b (le zero w.rhs) (four && rest)) → T (not b) → T (finite (inv w)) × T (finite (raw_tol tol w))
      finites true h e = absurd e
      finites false h e =
          let two = finite (raw_normalized a x w) && finite (raw a x w) in
          let three = finite (normalized a x w) && two in
          let f = and_l four rest h in
          let r = and_r (finite (raw_tol tol w)) three f in
          (inverse_finite (and_l (finite (normalized a x w)) two r), and_l (finite (raw_tol tol w)) three f)

  pub unfit_breaks : unfit tol w ≡ true → admits tol a x w ≡ false
  unfit_breaks u = one_truth (admits tol a x w) false (λ h. fails (sym u ∙ admitted_fit h) tt) (λ h. absurd h)

  pub unmeetable_breaks : unmeetable w ≡ true → admits tol a x w ≡ false
  unfolding admits unmeetable
  unmeetable_breaks m = go (numbers_finite w) (empty w) (lt w.rhs zero) (le zero w.rhs) m (λ l. lt_not_le w.rhs zero l)
    where
      go : (n e l g : Bool) → e && l ≡ true → (T l → T g → ⊥) → n && cond e g all_are ≡ false
      go false e l g m h = refl
      go true false l g m h = absurd (fails (sym m) tt)
      go true true l true m h = absurd (h (holds m) tt)
      go true true l false m h = refl

  -- an empty row that is not refused admits every speed
  silent_admits : unfit tol w ≡ false → unmeetable w ≡ false → empty w ≡ true → admits tol a x w ≡ true
  unfolding admits unmeetable numbers_finite
  silent_admits u m e = rw (fit_numbers tol w u, e) (go (le zero w.rhs) (lt_or_le w.rhs zero (finite_number w.rhs rhs_finite) zero_number))
    where
      third : (b c d f : Bool) → T (b && (c && (d && f))) → T d
      third true true true f t = tt
      third true true false f t = t
      third true false d f t = absurd t
      third false c d f t = absurd t

      rhs_finite : T (finite w.rhs)
      rhs_finite = third (finite w.curr) (finite w.prev) (finite w.rhs) (finite (norm w)) (holds (fit_numbers tol w u))

      go : (b : Bool) → T (lt w.rhs zero) ⊎ T b → b ≡ true
      go true h = refl
      go false (inl l) = absurd (fails (simp e at m) l)
      go false (inr h) = absurd h

  -- ---- one row more

  abbrev next : Float → Float → Certificate
  next n r = cond (admits tol a x w) (Some (figures (worse_normalized a x n w) (worse_raw a x r w))) None

  broken : (n r : Float) → admits tol a x w ≡ false → None ≡ next n r
  broken n r h = rw h

  module _ (n r : Float) (N : T (from_zero n)) (R : T (from_zero r)) where
    once : T (from_zero (worse n (normalized a x w)))
    once = worse_from n (normalized a x w) N

    worst_is : worse (worse n (normalized a x w)) (raw_normalized a x w) ≡ maximum (maximum n (normalized a x w)) (raw_normalized a x w)
    worst_is =
        worse_is (worse n (normalized a x w)) (raw_normalized a x w) once ∙ ap (λ (y : Float). maximum y (raw_normalized a x w)) (worse_is n (normalized a x w) N)

    says_counted : unfit tol w ≡ false → empty w ≡ false → counted (Some (figures n r)) (judged tol x (block_of tol a w)) ≡ next n r
    unfolding admits judged counted worsened block_of worse_normalized worse_raw
    says_counted u e =
        let t = fit_tolerance tol w u e in
        rw (fit_numbers tol w u, e, within_all tol (raw_tol tol w) (normalized a x w) (raw a x w) (norm w) (mul_finite binary64 tol _ t).0 t) (go all_are)
      where
        go : (b : Bool) → counted (Some (figures n r)) (cond b (Some (residuals_of x (block_of tol a w))) None)
            ≡ cond b (Some (figures (maximum (maximum n (normalized a x w)) (raw_normalized a x w)) (maximum r (raw a x w)))) None
        go true = ap₂ (λ (n r : Float). Some (figures n r)) worst_is (worse_is r (raw a x w) R)
        go false = refl

    -- the figures after a row start no lower
    normalized_from : T (from_zero (worse_normalized a x n w))
    unfolding worse_normalized
    normalized_from = go (empty w)
      where
        go : (e : Bool) → T (from_zero (cond e n (maximum (maximum n (normalized a x w)) (raw_normalized a x w))))
        go true = N
        go false = subst (λ (y : Float). T (from_zero y)) worst_is (worse_from (worse n (normalized a x w)) (raw_normalized a x w) once)

    raw_from : T (from_zero (worse_raw a x r w))
    unfolding worse_raw
    raw_from = go (empty w)
      where
        go : (e : Bool) → T (from_zero (cond e r (maximum r (raw a x w))))
        go true = R
        go false = subst (λ (y : Float). T (from_zero y)) (worse_is r (raw a x w) R) (worse_from r (raw a x w) R)

  silent_counted : (n r : Float) → unfit tol w ≡ false → unmeetable w ≡ false → empty w ≡ true → Some (figures n r) ≡ next n r
  unfolding worse_normalized worse_raw
  silent_counted n r u m e = rw (silent_admits u m e, e)

  row_counted : (n r : Float) → T (from_zero n) → T (from_zero r) → counted_row tol a x (Some (figures n r)) w ≡ next n r
  unfolding reading_of counted_reading
  row_counted n r N R = go (unfit tol w) refl (unmeetable w) refl (empty w) refl
    where
      go : (u : Bool) → unfit tol w ≡ u → (m : Bool) → unmeetable w ≡ m → (e : Bool) → empty w ≡ e
          → counted_reading tol x (Some (figures n r)) (cond u (Err 5) (cond m (Err 6) (cond e (Ok None) (Ok (Some (block_of tol a w)))))) ≡ next n r
      go true u m h e k = broken n r (unfit_breaks u)
      go false u true h e k = broken n r (unmeetable_breaks h)
      go false u false h true k = silent_counted n r u h k
      go false u false h false k = says_counted n r N R u k

-- ---- all rows

module _ (tol a x : Float) where
  reading_fails : (r : Reading) → counted_reading tol x None r ≡ None
  unfolding counted_reading counted
  reading_fails (Err n) = refl
  reading_fails (Ok None) = refl
  reading_fails (Ok (Some b)) = refl

  pub failed_stays : (rows : List Row) → fold (counted_row tol a x) None rows ≡ None
  unfolding fold
  failed_stays [] = refl
  failed_stays (w ∷ rows) = ap (λ (c : Certificate). fold (counted_row tol a x) c rows) (reading_fails (reading_of tol a w)) ∙ failed_stays rows

  abbrev verdict : List Row → Float → Float → Certificate
  verdict rows n r = cond (all (admits tol a x) rows) (Some (figures (fold (worse_normalized a x) n rows) (fold (worse_raw a x) r rows))) None

  rows_counted : (rows : List Row) (n r : Float) → T (from_zero n) → T (from_zero r) → fold (counted_row tol a x) (Some (figures n r)) rows ≡ verdict rows n r
  unfolding fold all
  rows_counted [] n r N R = refl
  rows_counted (w ∷ rows) n r N R =
      ap (λ (c : Certificate). fold (counted_row tol a x) c rows) (row_counted tol a x w n r N R)
      ∙ go (admits tol a x w) (rows_counted rows (worse_normalized a x n w) (worse_raw a x r w) (normalized_from tol a x w n r N R) (raw_from tol a x w n r N R))
    where
      go : (b : Bool) → fold (counted_row tol a x) (Some (figures (worse_normalized a x n w) (worse_raw a x r w))) rows
          ≡ verdict rows (worse_normalized a x n w) (worse_raw a x r w)
          → fold (counted_row tol a x) (cond b (Some (figures (worse_normalized a x n w) (worse_raw a x r w))) None) rows
          ≡ cond (b && all (admits tol a x) rows)
          (Some (figures (fold (worse_normalized a x) (worse_normalized a x n w) rows) (fold (worse_raw a x) (worse_raw a x r w) rows)))
          None
      go true h = h
      go false h = failed_stays rows

-- the test of the bounds, as it is made
pub inside_bounds : (q : Request) (s : Span) (x : Float) → s ≡ span_of q → inside s x ≡ between q x
unfolding inside between
inside_bounds q s x e = rw e

-- the certificate, by its rows one after another
pub certificate_counted : (q : Request) (rows : List Row) (x : Float)
    → cond (between q x) (fold (counted_row q.tolerances.feas q.a_prev x) (Some (figures zero zero)) rows) None ≡ certificate q rows x
unfolding certificate passes
certificate_counted q rows x = go (between q x) (rows_counted q.tolerances.feas q.a_prev x rows zero zero zero_from zero_from)
  where
    go : (b : Bool) {c : Certificate} → c ≡ verdict q.tolerances.feas q.a_prev x rows zero zero
        → cond b c None ≡ cond (b && all (admits q.tolerances.feas q.a_prev x) rows)
        (Some (figures (fold (worse_normalized q.a_prev x) zero rows) (fold (worse_raw q.a_prev x) zero rows))) None
    go true h = h
    go false h = refl
