use Rattle.search.specs.OnTable.{moved}
use Rattle.search.proofs.halving.replace.Goals as goal

pub returns-then-passes : goal.returns-then-passes
unfolding moved
returns-then-passes c = simp c.if-passes.true

pub returns-else-passes : goal.returns-else-passes
unfolding moved
returns-else-passes c = simp c.if-passes.false
