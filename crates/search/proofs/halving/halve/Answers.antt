use Rattle.search.specs.OnTable.{halved_sides}
use Rattle.search.proofs.halving.halve.Goals as goal

pub returns : goal.returns
unfolding halved_sides
returns c = simp (← c.replace.ensures, ← c.passes.ensures, ← c.middle-m.ensures)
