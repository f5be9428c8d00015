use borrow.Author.Tests.{lt-ltb, le-ltb}
use Rattle.byte_lists.specs.Bytes.{pattern_at}
use Rattle.byte_lists.proofs.doubles.pattern_at.Goals as goal

pub returns-then-k-b : goal.returns-then-k-b
unfolding pattern_at
returns-then-k-b c = rw (lt-ltb _ _ c.if-k-b.true) c.word_at.ensures

pub returns-else-k-b : goal.returns-else-k-b
unfolding pattern_at
returns-else-k-b c = rw (le-ltb _ _ c.if-k-b.false)
