use Rattle.tables.specs.ByBlocks.{certificate_on}
use Rattle.tables.proofs.trial.Trial.certify.Goals as goal

pub returns-then-is_inside : goal.returns-then-is_inside
unfolding certificate_on
returns-then-is_inside c = simp (← c.is_inside.ensures, c.if-is_inside.true, ← c.certify_rows.ensures)

pub returns-else-is_inside : goal.returns-else-is_inside
unfolding certificate_on
returns-else-is_inside c = simp (← c.is_inside.ensures, c.if-is_inside.false)
