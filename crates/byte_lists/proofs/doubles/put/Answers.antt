use mathlib.Core.Path.{ap, ◌∙◌}
use Prim.Native.Nat.{◌*◌}
use borrow.Author.Tests.{lt-ltb, le-ltb}
use Rattle.byte_lists.specs.Bytes.{word_put, double_put}
use Rattle.byte_lists.proofs.doubles.put.Goals as goal

pub returns-then-k-b : goal.returns-then-k-b
unfolding double_put
returns-then-k-b c =
    let a = c.args in
    rw (lt-ltb _ _ c.if-k-b.true)
    (c.put_word.ensures ∙ ap (word_put a.b.now (8 * a.k)) c.pattern_of.ensures)

pub returns-else-k-b : goal.returns-else-k-b
unfolding double_put
returns-else-k-b c = rw (le-ltb _ _ c.if-k-b.false)
