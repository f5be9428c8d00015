use Rattle.certificates.specs.RowByRow.{inside}
use Rattle.certificates.proofs.certificate.is_inside.Goals as goal
use Rattle.certificates.proofs.certificate.is_inside.Goals.{then-finite, else-finite}

pub returns-then-s-x : goal.returns-then-s-x
unfolding inside
returns-then-s-x c =
    elim c.if-finite.branch [
      | then-finite w ↦ rw (← w.if-finite.ensures, ← w.value-is, c.if-s-x.true)
      | else-finite w ↦ cc w.if-finite.false
    ]

pub returns-else-s-x : goal.returns-else-s-x
unfolding inside
returns-else-s-x c =
    elim c.if-finite.branch [
      | then-finite w ↦ rw (← w.if-finite.ensures, ← w.value-is, c.if-s-x.false)
      | else-finite w ↦ rw (← w.if-finite.ensures) c.if-s-x.false
    ]
