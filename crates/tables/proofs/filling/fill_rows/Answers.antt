use Rattle.std.proofs.Common.{◌≡◌, sym, ap, ◌∙◌, ◌+◌, ◌*◌, arith, take, Ok, Err}
use Rattle.std.proofs.lemmas.Result.{err_from_is_err_and}
use Rattle.refusals.specs.Refusal.{number_of, number_in}
use Rattle.refusals.proofs.Refused.{number_some}
use Rattle.rows.proofs.RowScans.{read_at}
use Rattle.byte_lists.specs.Bytes.{doubles_of}
use Rattle.tables.specs.Findings.{found_reading}
use Rattle.tables.proofs.Finding.{so_far, refused_too, said_too, left, none_left, row_left, end_refused, end_met}
use Rattle.tables.proofs.filling.fill_rows.Goals as goal
use Rattle.tables.proofs.filling.fill_rows.Goals.{in-Ok, in-Err}

pub loop-k-preserved : goal.loop-k-preserved
loop-k-preserved c =
    let a = c.args in
    let l = c.loop-k in
    let bs = take l.n l.table in
    let m = number_in l.met in
    let b = doubles_of a.rows.now in
    let before = l.invariant.found in
    elim c.match-r.branch [
      | in-Ok w ↦
          let here : so_far (take c.match-r.n c.match-r.table) (number_in c.match-r.met) ≡ found_reading (so_far bs m) (Ok w.in-Ok.said) =
          rw (w.n-is, w.table-is, w.met-is) (said_too bs _ m w.in-Ok.said w.enter-n.ensures.0) in
          let read = read_at a.tol a.a b (3 * l.k) _ _ _ _ c.double_at.ensures c.double_at-in-loop-k.ensures c.double_at-in-loop-k-2.ensures w.in-Ok.ensures in
          record {
            count = omega (arith, w.n-is, w.enter-n.ensures.1);
            found = ap (left a.tol a.a a.rows.now (l.k + 1)) here ∙ row_left a.tol a.a a.rows.now l.k _ (so_far bs m) c.loop-k-test.true read ∙ before;
          }
      | in-Err w ↦
          let here : so_far (take c.match-r.n c.match-r.table) (number_in c.match-r.met) ≡ found_reading (so_far bs m) (Err (number_of w.in-Err.e)) =
          rw (w.n-is, w.table-is, w.met-is, w.sooner.ensures) (refused_too bs m (number_of w.in-Err.e) (number_some w.in-Err.e)) in
          let read = read_at a.tol a.a b (3 * l.k) _ _ _ _ c.double_at.ensures c.double_at-in-loop-k.ensures c.double_at-in-loop-k-2.ensures w.in-Err.ensures in
          record {
            count = omega (arith, w.n-is);
            found = ap (left a.tol a.a a.rows.now (l.k + 1)) here ∙ row_left a.tol a.a a.rows.now l.k _ (so_far bs m) c.loop-k-test.true read ∙ before;
          }
    ]

pub returns-in_err-met : goal.returns-in_err-met
returns-in_err-met c =
    let a = c.args in
    let l = c.loop-k in
    let p = err_from_is_err_and c.from_residual.result c.from_residual.ensures.1 in
    let s = so_far (take l.n l.table) (number_in l.met) in
    rw (p.1, p.2) (sym (end_refused (take l.n l.table) l.met _ c.in_err-met.was) ∙ sym (none_left a.tol a.a a.rows.now l.k s c.loop-k-test.false) ∙ l.invariant.found, omega arith)

pub returns : goal.returns
returns c =
    let a = c.args in
    let l = c.loop-k in
    let s = so_far (take l.n l.table) (number_in l.met) in
    (sym (end_met (take l.n l.table) l.met _ c.in_ok-met.was) ∙ sym (none_left a.tol a.a a.rows.now l.k s c.loop-k-test.false) ∙ l.invariant.found, omega arith)
