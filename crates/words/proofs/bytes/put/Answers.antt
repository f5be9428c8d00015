use Rattle.std.proofs.Common.{arith, ◌*◌, ◌∙◌, sym}
use borrow.Author.Tests.{lt-ltb, le-ltb}
use Rattle.byte_lists.proofs.Eights.{word_put_is, part_put}
use Rattle.words.specs.Spots.{number_put}
use Rattle.words.proofs.bytes.put.Goals as goal

pub returns-then-k-b : goal.returns-then-k-b
unfolding number_put
returns-then-k-b c =
    let a = c.args in
    simp (lt-ltb _ _ c.if-k-b.true)
    (part_put (8 * a.k) _ a.b.now _ _ (c.copy_from_slice.ensures.after ∙ c.to_le_bytes.ensures) (omega arith) (omega arith)
    ∙ sym (word_put_is a.b.now (8 * a.k) a.n))

pub returns-else-k-b : goal.returns-else-k-b
unfolding number_put
returns-else-k-b c = simp (le-ltb _ _ c.if-k-b.false)
