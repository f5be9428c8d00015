use Rattle.std.proofs.Common.{rules}
use Rattle.std.specs.Float.Ieee.{lt}
use Rattle.list_tests.proofs.tests.Finite.rises.Goals as goal

pub returns : goal.returns
returns c = c.every_pair.ensures lt (λ x y r e. search rules)
