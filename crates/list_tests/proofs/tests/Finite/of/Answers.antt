use Rattle.std.proofs.Common.{refl}
use Rattle.list_tests.proofs.tests.Finite.of.Goals as goal

pub returns-then-all_finite : goal.returns-then-all_finite
returns-then-all_finite c = refl
