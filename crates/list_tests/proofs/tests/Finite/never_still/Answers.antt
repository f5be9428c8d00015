use Rattle.std.proofs.Common.{rules}
use Rattle.list_tests.specs.Tests.{not_both_zero}
use Rattle.list_tests.proofs.tests.Finite.never_still.Goals as goal

pub returns : goal.returns
unfolding not_both_zero
returns c = c.every_pair.ensures not_both_zero (λ x y r e. search rules)
