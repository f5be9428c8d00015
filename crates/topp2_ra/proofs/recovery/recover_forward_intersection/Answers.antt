use Rattle.std.proofs.Common.{sym, ◌∙◌}
use Rattle.std.proofs.lemmas.Result.{err_from_is_err_and}
use Rattle.refusals.proofs.Refused.{number_some}
use Rattle.byte_lists.specs.Bytes.{doubles_of}
use Rattle.topp2_ra.proofs.Refusing.{none_refused, one_refused}
use Rattle.topp2_ra.proofs.recovery.recover_forward_intersection.Goals as goal

pub returns-in_err-refusal : goal.returns-in_err-refusal
returns-in_err-refusal c =
    let a = c.args in
    let p = err_from_is_err_and c.from_residual.result c.from_residual.ensures.1 in
    rw (p.1, p.2) (one_refused a.q (doubles_of a.rows.now) _ c.in_err-refusal.ensures (number_some c.in_err-refusal.field-0.0))

pub returns : goal.returns
returns c =
    let a = c.args in
    c.recover.ensures ∙ none_refused a.q (doubles_of a.rows.now) (sym c.in_ok-refusal.ensures)
