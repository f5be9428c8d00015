use Rattle.rows.specs.Judging.{within}
use Rattle.rows.proofs.Within.{minus_infinity}
use Rattle.rows.proofs.judging.within.Goals as goal

pub returns-then-y : goal.returns-then-y
unfolding within
returns-then-y c = simp (← minus_infinity, c.if-y.true)

pub returns-else-y : goal.returns-else-y
unfolding within
returns-else-y c = rw (← minus_infinity, c.if-y.false)
