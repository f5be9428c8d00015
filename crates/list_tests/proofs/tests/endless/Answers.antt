use Rattle.list_tests.proofs.Exponents.{carries}
use Rattle.std.proofs.Common.{arith}
use Rattle.list_tests.proofs.tests.endless.Goals as goal

pub returns : goal.returns
returns c = (carries c.args.pattern, omega arith)
