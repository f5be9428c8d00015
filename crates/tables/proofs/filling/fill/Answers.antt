use Rattle.std.proofs.Common.{◌∙◌, arith, length}
use Rattle.std.proofs.lemmas.Bool.{leb-true}
use Rattle.std.proofs.lemmas.Result.{err_from_is_err_and}
use Rattle.refusals.proofs.Refused.{let_through}
use Rattle.refusals.specs.declared.refusal.Refusal.TheVariants.{RowNumber}
use Rattle.rows.proofs.Readings.{stopped}
use Rattle.byte_lists.specs.Bytes.{doubles_of}
use Rattle.tables.proofs.Finding.{found_room, found_none, same_room}
use Rattle.tables.proofs.filling.fill.Goals as goal

pub returns-in_err-unless : goal.returns-in_err-unless
returns-in_err-unless c =
    let a = c.args in
    let n = length a.table.now in
    let p = err_from_is_err_and c.from_residual.result c.from_residual.ensures.1 in
    rw (p.1, p.2) (
      stopped c.in_err-unless.field-0.0 _ 5 c.in_err-unless.ensures
          (λ h. found_none a.tol a.a (doubles_of a.rows.now) n (same_room a.rows.now n ∙ h)),
      omega arith,
    )

pub returns : goal.returns
returns c =
    let a = c.args in
    let n = length a.table.now in
    let room = let_through RowNumber _ (tt {0}) c.in_ok-unless.ensures in
    let few = leb-true _ _ room in
    (c.fill_rows.ensures.0 ∙ found_room a.tol a.a (doubles_of a.rows.now) n (same_room a.rows.now n ∙ room), omega (arith, c.fill_rows.ensures.1, few))
