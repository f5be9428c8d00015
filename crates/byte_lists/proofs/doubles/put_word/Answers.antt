use Rattle.std.proofs.Common.{sym, ◌∙◌, arith}
use Rattle.byte_lists.proofs.Eights.{word_put_is, part_put}
use Rattle.byte_lists.proofs.doubles.put_word.Goals as goal

pub returns : goal.returns
returns c =
    let a = c.args in
    part_put a.i _ a.b.now _ _ (c.copy_from_slice.ensures.after ∙ c.to_le_bytes.ensures) (omega arith) (omega arith)
    ∙ sym (word_put_is a.b.now a.i a.w)
