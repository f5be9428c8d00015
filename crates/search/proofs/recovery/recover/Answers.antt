use Rattle.std.proofs.Common.{◌∙◌}
use Rattle.byte_lists.specs.Bytes.{doubles_of}
use Rattle.search.proofs.Answering.{outside_table}
use Rattle.search.proofs.recovery.recover.Goals as goal

pub returns : goal.returns
returns c =
    let a = c.args in
    let s = c.span-bounds in
    c.by_table.ensures ∙ outside_table a.q (doubles_of a.rows.now) s.result c.is_inside.result s.ensures c.is_inside.ensures c.if-is_inside.false
