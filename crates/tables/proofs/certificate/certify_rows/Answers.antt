use Rattle.std.proofs.Common.{sym, ap, ◌∙◌, ◌+◌, drop, Some}
use Rattle.rows.specs.Rows.{fold}
use Rattle.certificates.specs.Certificate.{Certificate}
use Rattle.certificates.specs.declared.certificate.Figures.{Figures}
use Rattle.certificates.proofs.RowLoop.{broken_ends, fits_counts}
use Rattle.tables.specs.ByBlocks.{counted_block}
use Rattle.tables.proofs.Blocks.{fold_on, fold_done}
use Rattle.tables.proofs.Tables.{failed_stays}
use Rattle.tables.proofs.certificate.certify_rows.Goals as goal

pub returns-in_err-judge : goal.returns-in_err-judge
returns-in_err-judge c =
    let a = c.args in
    let l = c.loop-b in
    let left = drop (l.b-index + 1) a.table.now in
    let f = counted_block a.tol a.x in
    let broken = broken_ends a.tol a.x l.worst _ (sym c.judge.ensures ∙ c.in_err-judge.was) in
    c.from_residual.ensures
    ∙ sym (fold_on a.table.now l.b-index f (Some l.worst) _ c.loop-b-test.true
    ∙ ap (λ (t : Certificate). fold f t left) (sym broken)
    ∙ failed_stays a.tol a.x left)
    ∙ l.invariant
    ∙ ap (λ (w : Figures). fold f (Some w) a.table.now) c.start-worst.ensures

pub loop-b-preserved : goal.loop-b-preserved
loop-b-preserved c =
    let a = c.args in
    let l = c.loop-b in
    let f = counted_block a.tol a.x in
    let fits = ap (λ (w : Figures). Some w) c.with-worst.ensures ∙ fits_counts a.tol a.x l.worst _ _ (sym c.judge.ensures ∙ c.in_ok-judge.was) in
    ap (λ (t : Certificate). fold f t (drop (l.b-index + 1) a.table.now)) fits
    ∙ sym (fold_on a.table.now l.b-index f (Some l.worst) _ c.loop-b-test.true)
    ∙ l.invariant

pub returns : goal.returns
returns c =
    let a = c.args in
    let l = c.loop-b in
    let f = counted_block a.tol a.x in
    sym (fold_done a.table.now l.b-index f (Some l.worst) c.loop-b-test.false) ∙ l.invariant ∙ ap (λ (w : Figures). fold f (Some w) a.table.now) c.start-worst.ensures
