-- The certificate of the table is the certificate of the rows, where no row is unfit or unmeetable.
use Rattle.std.proofs.Common.{◌≡◌, refl, ap, ◌∙◌, Bool, true, false, ◌&&◌, ◌||◌, cond, Option, Some, None, is_some, Ok, List, [], ◌∷◌}
use mathlib.Core.Path.{fun_ext}
use lib.Ieee.{Float}
use Rattle.number.specs.Doubles.{zero}
use Rattle.number.proofs.Order.{fails}
use Rattle.rows.specs.Rows.{Row, fold, any, all}
use Rattle.rows.specs.Row.{empty, unfit, unmeetable}
use Rattle.rows.specs.Reading.{block_of, reading_of}
use Rattle.rows.specs.Judging.{judged}
use Rattle.rows.specs.declared.block.Block.{Block}
use Rattle.rows.specs.declared.judging.Residuals.{Residuals}
use Rattle.limits.specs.Bounds.{span_of}
use Rattle.limits.specs.declared.request.Request.{Request}
use Rattle.limits.specs.declared.projection.Span.{Span}
use Rattle.certificates.specs.Certificate.{between, figures, Certificate, certificate}
use Rattle.certificates.specs.RowByRow.{inside, counted, counted_reading, counted_row}
use Rattle.certificates.specs.declared.certificate.Figures.{Figures}
use Rattle.certificates.proofs.Verdicts.{verdict}
use Rattle.certificates.proofs.Certificates.{inside_bounds, certificate_counted}
use Rattle.tables.specs.Table.{blocks}
use Rattle.tables.specs.ByBlocks.{counted_block, certificate_on, fits_block, passes_on}

-- ---- what the loop over the blocks keeps

pub failed_stays : (tol x : Float) (bs : List Block) → fold (counted_block tol x) None bs ≡ None
unfolding fold counted
failed_stays tol x [] = refl
failed_stays tol x (b ∷ bs) = failed_stays tol x bs

-- ---- the verdict alone

module _ (tol x : Float) where
  verdict_all : (bs : List Block) (f : Figures) → verdict (fold (counted_block tol x) (Some f) bs) ≡ all (fits_block tol x) bs
  unfolding fold all counted
  verdict_all [] f = refl
  verdict_all (b ∷ bs) f = go (judged tol x b) (λ f. verdict_all bs f)
    where
      go : (j : Option Residuals) → ((f : Figures) → verdict (fold (counted_block tol x) (Some f) bs) ≡ all (fits_block tol x) bs)
          → verdict (fold (counted_block tol x) (counted (Some f) j) bs) ≡ is_some j && all (fits_block tol x) bs
      go None rest = ap verdict (failed_stays tol x bs)
      go (Some r) rest = rest _

  pub verdict_on : (bounds : Span) (bs : List Block) → verdict (certificate_on tol bounds bs x) ≡ passes_on tol bounds bs x
  unfolding certificate_on passes_on
  verdict_on bounds bs = go (inside bounds x)
    where
      go : (b : Bool) → verdict (cond b (fold (counted_block tol x) (Some (figures zero zero)) bs) None) ≡ b && all (fits_block tol x) bs
      go true = verdict_all bs (figures zero zero)
      go false = refl

-- ---- the rows by their blocks

or_left : (a b : Bool) → a || b ≡ false → a ≡ false
or_left true b h = h
or_left false b h = refl

or_right : (a b : Bool) → a || b ≡ false → b ≡ false
or_right true b h = absurd (fails h tt)
or_right false b h = h

module _ (tol a x : Float) where
  -- a row that is not refused counts as its block does, or not at all
  row_counted : (w : Row) (rows : List Row) → unfit tol w ≡ false → unmeetable w ≡ false
      → ((c : Certificate) → fold (counted_block tol x) c (blocks tol a rows) ≡ fold (counted_row tol a x) c rows)
      → (c : Certificate) → fold (counted_block tol x) c (cond (empty w) (blocks tol a rows) (block_of tol a w ∷ blocks tol a rows))
      ≡ fold (counted_row tol a x) (counted_row tol a x c w) rows
  unfolding fold reading_of counted_reading
  row_counted w rows u m rest c = rw (u, m) (go (empty w))
    where
      go : (e : Bool) → fold (counted_block tol x) c (cond e (blocks tol a rows) (block_of tol a w ∷ blocks tol a rows))
          ≡ fold (counted_row tol a x) (counted_reading tol x c (cond e (Ok None) (Ok (Some (block_of tol a w))))) rows
      go true = rest c
      go false = rest (counted_block tol x c (block_of tol a w))

  rows_counted : (rows : List Row) → any (unfit tol) rows ≡ false → any unmeetable rows ≡ false
      → (c : Certificate) → fold (counted_block tol x) c (blocks tol a rows) ≡ fold (counted_row tol a x) c rows
  unfolding blocks any fold
  rows_counted [] u m c = refl
  rows_counted (w ∷ rows) u m c =
      row_counted w rows (or_left (unfit tol w) (any (unfit tol) rows) u) (or_left (unmeetable w) (any unmeetable rows) m)
      (rows_counted rows (or_right (unfit tol w) (any (unfit tol) rows) u) (or_right (unmeetable w) (any unmeetable rows) m)) c

pub table_certificate : (q : Request) (rows : List Row) → any (unfit q.tolerances.feas) rows ≡ false → any unmeetable rows ≡ false
    → certificate_on q.tolerances.feas (span_of q) (blocks q.tolerances.feas q.a_prev rows) ≡ certificate q rows
unfolding certificate_on
table_certificate q rows u m =
    fun_ext
    (λ x.
    let same = rows_counted q.tolerances.feas q.a_prev x rows u m (Some (figures zero zero)) in
    rw (inside_bounds q (span_of q) x refl) (ap (λ (c : Certificate). cond (between q x) c None) same ∙ certificate_counted q rows x))
