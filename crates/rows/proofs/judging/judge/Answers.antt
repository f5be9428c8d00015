use Rattle.rows.specs.Judging.{judged}
use Rattle.rows.proofs.judging.judge.Goals as goal

pub returns-then-all_within : goal.returns-then-all_within
unfolding judged
returns-then-all_within c = simp (c.if-all_within.true, ← c.all_within.ensures)

pub returns-else-all_within : goal.returns-else-all_within
unfolding judged
returns-else-all_within c = simp (c.if-all_within.false, ← c.all_within.ensures)
