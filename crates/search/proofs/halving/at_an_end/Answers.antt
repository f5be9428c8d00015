use Rattle.search.specs.OnTable.{meet}
use Rattle.search.proofs.halving.at_an_end.Goals as goal

pub returns-then-m-s : goal.returns-then-m-s
unfolding meet
returns-then-m-s c = simp (c.if-m-s.true, ← c.middle-m.ensures)

pub returns-else-m-s : goal.returns-else-m-s
unfolding meet
returns-else-m-s c = simp (c.if-m-s.false, ← c.middle-m.ensures)
