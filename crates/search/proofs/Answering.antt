-- Cap and table answer as the rows do.
use Rattle.std.proofs.Common.{ℕ, ◌/◌, ◌≤◌, ◌≡◌, refl, sym, ap, ◌∙◌, Bool, true, false, not, ◌||◌, cond, Some, None, Ok, Err, List, leb, length}
use Rattle.std.proofs.lemmas.Bool.{le-leb}
use lib.Ieee.{Float}
use Rattle.refusals.specs.Refusals.{unless, ◌or◌}
use Rattle.refusals.specs.Most.{most_rows}
use Rattle.refusals.specs.Outcome.{answered}
use Rattle.rows.specs.Rows.{Row, rows_of, any}
use Rattle.rows.specs.Row.{unfit, unmeetable, rows_no}
use Rattle.rows.specs.declared.block.Block.{Block}
use Rattle.limits.specs.Bounds.{upper, span_of}
use Rattle.limits.specs.declared.request.Request.{Request}
use Rattle.limits.specs.declared.projection.Span.{Span}
use Rattle.certificates.specs.Certificate.{between, certificate}
use Rattle.certificates.specs.declared.certificate.Figures.{Figures}
use Rattle.certificates.specs.RowByRow.{inside}
use Rattle.certificates.proofs.Certificates.{inside_bounds, certificate_counted}
use Rattle.certificates.proofs.Verdicts.{verdict, verdict_is, passed}
use Rattle.certificates.proofs.Admitted.{passed_fit}
use Rattle.tables.specs.Table.{blocks}
use Rattle.tables.specs.Findings.{found_of, found}
use Rattle.tables.specs.ByBlocks.{certificate_on, gathered}
use Rattle.tables.proofs.Tables.{table_certificate}
use Rattle.tables.proofs.Scanning.{table_unreachable, table_flat, table_narrowed}
use Rattle.search.specs.Answer.{certified}
use Rattle.search.specs.Cap.{after_cap, with_cap, of_rows, with_rows}
use Rattle.search.specs.OnTable.{after_gathered, with_table, from_finding, by_table}

-- ---- a table

module _ (tol a : Float) where
  -- whichever table has room for a block for each row
  pub either_table : (l : List Float) (m n : ℕ) → length l / 3 ≤ m → length l / 3 ≤ n → found tol a l m ≡ found tol a l n
  unfolding found
  either_table l m n h k = rw (le-leb (length l / 3) (m) h, le-leb (length l / 3) (n) k)

-- ---- where the cap failed

module _ (q : Request) (rows : List Row) where
  abbrev tol : Float
  tol = q.tolerances.feas

  abbrev bs : List Block
  bs = blocks tol q.a_prev rows

  table_same : certificate_on tol (span_of q) bs ≡ certificate q rows → with_table tol (span_of q) bs ≡ after_cap q rows None
  unfolding after_gathered gathered after_cap
  table_same h = rw (table_unreachable tol q.a_prev rows, table_flat tol q.a_prev rows, h, table_narrowed tol q.a_prev (span_of q) rows)

  rows_answer : certificate q rows (upper q) ≡ None → from_finding tol (span_of q) (found_of tol q.a_prev rows) ≡ of_rows q rows
  unfolding found_of of_rows with_cap rows_no
  rows_answer f = rw f (go (any (unfit tol) rows) (any unmeetable rows) (table_certificate q rows))
    where
      go : (u m : Bool) → (u ≡ false → m ≡ false → certificate_on tol (span_of q) bs ≡ certificate q rows)
          → from_finding tol (span_of q) (cond u (Err 5) (cond m (Err 6) (Ok bs)))
          ≡ answered (after_cap q rows None) Err (unless (not u) 5 or unless (not m) 6)
      go true m h = refl
      go false true h = refl
      go false false h = table_same (h refl refl)

  -- ---- where it passed
  cap_answers : {f : Figures} → certificate q rows (upper q) ≡ Some f → Ok (certified (upper q) f.worst_normalized f.worst_raw 1) ≡ of_rows q rows
  unfolding of_rows with_cap after_cap
  cap_answers e = rw (passed_fit q rows (upper q) (passed q rows (upper q) _ e), e)

-- ---- both

module _ (q : Request) (l : List Float) where
  pub by_cap : {f : Figures} → certificate q (rows_of l) (upper q) ≡ Some f → Ok (certified (upper q) f.worst_normalized f.worst_raw 1) ≡ with_rows q l
  unfolding with_rows
  by_cap e = rw (sym (verdict_is q (rows_of l) (upper q)) ∙ ap verdict e) (cap_answers q (rows_of l) e ∙ go (leb (length l / 3) most_rows))
    where
      go : (b : Bool) → of_rows q (rows_of l) ≡ cond (b || true) (of_rows q (rows_of l)) (Err 5)
      go true = refl
      go false = refl

  pub by_table_lem : certificate q (rows_of l) (upper q) ≡ None → by_table q l 256 ≡ with_rows q l
  unfolding with_rows found
  by_table_lem e = rw (sym (verdict_is q (rows_of l) (upper q)) ∙ ap verdict e) (go (leb (length l / 3) 256) (rows_answer q (rows_of l) e))
    where
      go : (b : Bool) → from_finding q.tolerances.feas (span_of q) (found_of q.tolerances.feas q.a_prev (rows_of l)) ≡ of_rows q (rows_of l)
          → from_finding q.tolerances.feas (span_of q) (cond b (found_of q.tolerances.feas q.a_prev (rows_of l)) (Err 5))
          ≡ cond (b || false) (of_rows q (rows_of l)) (Err 5)
      go true h = h
      go false h = refl

  -- a cap outside the bounds
  pub outside_table : (s : Span) (b : Bool) → s ≡ span_of q → b ≡ inside s s.high → b ≡ false
      → by_table q l 256 ≡ with_rows q l
  outside_table s b e f g = by_table_lem (fails_outside (sym (inside_bounds q s (upper q) e) ∙ ap (λ (t : Span). inside s t.high) (sym e) ∙ sym f ∙ g))
    where
      fails_outside : between q (upper q) ≡ false → certificate q (rows_of l) (upper q) ≡ None
      fails_outside h = sym (certificate_counted q (rows_of l) (upper q)) ∙ rw h
