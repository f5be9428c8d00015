use Rattle.tables.specs.ByBlocks.{passes_on}
use Rattle.tables.proofs.trial.Trial.passes.Goals as goal

pub returns-then-is_inside : goal.returns-then-is_inside
unfolding passes_on
returns-then-is_inside c = simp (← c.is_inside.ensures, c.if-is_inside.true, ← c.all_fit.ensures)

pub returns-else-is_inside : goal.returns-else-is_inside
unfolding passes_on
returns-else-is_inside c = simp (← c.is_inside.ensures, c.if-is_inside.false)
