use Rattle.std.proofs.Common.{sym, ap, ◌∙◌, ◌+◌, ◌*◌, Some, arith}
use Rattle.rows.proofs.RowScans.{read_at}
use Rattle.byte_lists.specs.Bytes.{doubles_of}
use Rattle.certificates.specs.declared.certificate.Figures.{Figures}
use Rattle.certificates.proofs.RowLoop.{left, none_left, row_left, row_ends}
use Rattle.certificates.proofs.certificate.certify_rows.Goals as goal

pub returns-in_err-worst : goal.returns-in_err-worst
returns-in_err-worst c =
    let a = c.args in
    let k = c.loop-k.k in
    let read = read_at a.tol a.a (doubles_of a.rows.now) (3 * k) _ _ _ _ c.double_at.ensures c.double_at-in-loop-k.ensures c.double_at-in-loop-k-2.ensures c.read-r.ensures in
    c.from_residual.ensures
    ∙ row_ends a.tol a.a a.x a.rows.now k (omega (arith, c.loop-k-test.true)) _ read (Some c.loop-k.worst) (sym c.count_row.ensures ∙ c.in_err-worst.was)
    ∙ c.loop-k.invariant
    ∙ ap (λ (f : Figures). left a.tol a.a a.x a.rows.now 0 (Some f)) c.start-worst.ensures

pub loop-k-preserved : goal.loop-k-preserved
loop-k-preserved c =
    let a = c.args in
    let k = c.loop-k.k in
    let read = read_at a.tol a.a (doubles_of a.rows.now) (3 * k) _ _ _ _ c.double_at.ensures c.double_at-in-loop-k.ensures c.double_at-in-loop-k-2.ensures c.read-r.ensures in
    ap (left a.tol a.a a.x a.rows.now (k + 1)) (sym c.in_ok-worst.was ∙ c.count_row.ensures)
    ∙ row_left a.tol a.a a.x a.rows.now k (omega (arith, c.loop-k-test.true)) _ read (Some c.loop-k.worst)
    ∙ c.loop-k.invariant

pub returns : goal.returns
returns c =
    let a = c.args in
    sym (none_left a.tol a.a a.x a.rows.now c.loop-k.k (Some c.loop-k.worst) (omega (arith, c.loop-k-test.false)))
    ∙ c.loop-k.invariant
    ∙ ap (λ (f : Figures). left a.tol a.a a.x a.rows.now 0 (Some f)) c.start-worst.ensures
