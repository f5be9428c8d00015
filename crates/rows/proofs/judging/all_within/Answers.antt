use Rattle.rows.specs.Judging.{three_within}
use Rattle.rows.proofs.judging.all_within.Goals as goal
use Rattle.rows.proofs.judging.all_within.Goals.{then-within, else-within}

pub returns-then-within-2 : goal.returns-then-within-2
unfolding three_within
returns-then-within-2 c =
    elim c.if-within.branch [
      | then-within w ↦ rw (← w.if-within.ensures, ← w.within-then-within.ensures, ← w.value-is, c.if-within-2.true)
      | else-within w ↦ cc w.if-within.false
    ]

pub returns-else-within-2 : goal.returns-else-within-2
unfolding three_within
returns-else-within-2 c =
    elim c.if-within.branch [
      | then-within w ↦ rw (← w.if-within.ensures, ← w.within-then-within.ensures, ← w.value-is, c.if-within-2.false)
      | else-within w ↦ rw (← w.if-within.ensures) c.if-within-2.false
    ]
