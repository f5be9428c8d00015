-- What the loop over the rows keeps: the rows that are left, counted in the certificate so far.
use Rattle.std.proofs.Common.{◌≡◌, refl, sym, ap, ◌∙◌, ℕ, ◌+◌, ◌*◌, ◌/◌, ◌<◌, ◌≤◌, arith, List, length, drop, Option, Some, None, Result, Ok, Err}
use Rattle.std.specs.Result.{result_ok}
use lib.Ieee.{Float}
use Rattle.refusals.specs.Refusal.{numbered}
use Rattle.refusals.specs.declared.refusal.Refusal.{Refusal}
use Rattle.rows.specs.Rows.{rows_of, fold}
use Rattle.rows.specs.Reading.{Reading, reading_of}
use Rattle.rows.specs.Judging.{judged}
use Rattle.rows.specs.declared.block.Block.{Block}
use Rattle.rows.specs.declared.judging.Residuals.{Residuals}
use Rattle.rows.proofs.RowScans.{row_at, fold_at, fold_end}
use Rattle.byte_lists.specs.Bytes.{doubles_of}
use Rattle.byte_lists.proofs.Fronts.{length_doubles}
use Rattle.certificates.specs.Certificate.{Certificate}
use Rattle.certificates.specs.RowByRow.{worsened, counted, counted_reading, counted_row}
use Rattle.certificates.specs.declared.certificate.Figures.{Figures}
use Rattle.certificates.proofs.Certificates.{failed_stays}

module _ (tol a x : Float) (b : List ℕ) where
  abbrev pub left : ℕ → Certificate → Certificate
  left k s = fold (counted_row tol a x) s (rows_of (drop (3 * k) (doubles_of b)))

  pub none_left : (k : ℕ) (s : Certificate) → length b / 24 ≤ k → left k s ≡ s
  none_left k s h = fold_end (counted_row tol a x) s (doubles_of b) (3 * k) (omega (arith, length_doubles b))

  module _ (k : ℕ) (h : k < length b / 24) (v : Reading) (e : v ≡ reading_of tol a (row_at (doubles_of b) (3 * k))) (s : Certificate) where
    pub row_left : left (k + 1) (counted_reading tol x s v) ≡ left k s
    row_left =
        let three : 3 * (k + 1) ≡ 3 * k + 3 = omega arith in
        let l = doubles_of b in
        rw (three, e) (sym (fold_at (counted_row tol a x) s l (3 * k) (omega (arith, length_doubles b))))

    pub row_ends : counted_reading tol x s v ≡ None → None ≡ left k s
    row_ends n = sym (sym row_left ∙ ap (left (k + 1)) n ∙ failed_stays tol a x (rows_of (drop (3 * (k + 1)) (doubles_of b))))

-- ---- what a reading makes of a speed that passed so far

module _ (tol x : Float) (f : Figures) where
  abbrev counts : Result (Option Block) Refusal → Certificate
  counts r = counted_reading tol x (Some f) (numbered r)

  pub refused_ends : (r : Result (Option Block) Refusal) → result_ok r ≡ None → None ≡ counts r
  unfolding counted_reading
  refused_ends (Ok o) h = cc
  refused_ends (Err e) h = refl

  pub silent_stays : (r : Result (Option Block) Refusal) (o : Option Block) → result_ok r ≡ Some o → o ≡ None → Some f ≡ counts r
  unfolding counted_reading
  silent_stays (Ok None) o h e = refl
  silent_stays (Ok (Some b)) o h e = cc
  silent_stays (Err e) o h n = cc

  -- a row that says something: what its block makes of the speed
  pub says_counts : (r : Result (Option Block) Refusal) (o : Option Block) (b : Block) → result_ok r ≡ Some o → o ≡ Some b
      → counted (Some f) (judged tol x b) ≡ counts r
  unfolding counted_reading
  says_counts (Ok None) o b h e = cc
  says_counts (Ok (Some d)) o b h e = let same : b ≡ d = cc in rw same
  says_counts (Err e) o b h k = cc

  pub broken_ends : (j : Option Residuals) → j ≡ None → None ≡ counted (Some f) j
  unfolding counted
  broken_ends j h = rw h

  pub fits_counts : (j : Option Residuals) (r : Residuals) → j ≡ Some r → Some (worsened f r) ≡ counted (Some f) j
  unfolding counted
  fits_counts j r h = rw h
