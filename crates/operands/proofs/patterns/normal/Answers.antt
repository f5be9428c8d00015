use Rattle.std.proofs.Common.{arith}
use Rattle.operands.proofs.Operands.{code_normal}
use Rattle.operands.proofs.patterns.normal.Goals as goal

pub returns : goal.returns
returns c = code_normal c.args.b c.ranges.b.fits _ (omega arith) (omega arith)
