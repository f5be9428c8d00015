use Rattle.sloping.specs.Slopes.{slope}
use Rattle.sloping.proofs.slopes.slope.Goals as goal

pub returns : goal.returns
unfolding slope
returns c = rw (c.get.ensures, c.get-2.ensures, c.get-3.ensures, c.get-4.ensures)
