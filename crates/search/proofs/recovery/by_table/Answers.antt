use Rattle.std.proofs.Common.{ap, ◌∙◌, arith}
use Rattle.limits.specs.Bounds.{span_of}
use Rattle.byte_lists.specs.Bytes.{doubles_of}
use Rattle.byte_lists.proofs.Fronts.{length_doubles}
use Rattle.search.specs.OnTable.{from_finding}
use Rattle.search.proofs.Answering.{either_table}
use Rattle.search.proofs.recovery.by_table.Goals as goal

pub returns-then-rows-le768 : goal.returns-then-rows-le768
returns-then-rows-le768 c =
    let a = c.args in
    let e = length_doubles a.rows.now in
    let room = c.if-rows-le768.true in
    c.by_blocks.ensures
    ∙ ap (from_finding a.q.tolerances.feas (span_of a.q))
    (either_table a.q.tolerances.feas a.q.a_prev (doubles_of a.rows.now) 32 256 (omega (arith, e, room)) (omega (arith, e, room)))
