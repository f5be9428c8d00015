use Rattle.certificates.specs.RowByRow.{worsened}
use Rattle.certificates.proofs.certificate.Figures.with.Goals as goal

pub returns : goal.returns
unfolding worsened
returns c = simp (← c.worse-3.ensures, ← c.worse-2.ensures, ← c.worse.ensures)
