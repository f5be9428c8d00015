use Rattle.std.proofs.Common.{sym}
use lib.Ieee.{binary64, of_bits}
use Rattle.number.proofs.Patterns.{not_nan_bits}
use Rattle.number.proofs.ReadBack.{nan_pattern}
use Rattle.patterns.proofs.pattern.double_of.Goals as goal

-- `patterns::pattern::double_of` meets its contract.
pub returns-then-n-gt9218868437227405312 : goal.returns-then-n-gt9218868437227405312
unfolding of_bits
returns-then-n-gt9218868437227405312 c = sym (nan_pattern c.args.n c.if-n-gt9218868437227405312.true)

pub float_from_bits-result : goal.float_from_bits-result
float_from_bits-result c = not_nan_bits binary64 c.args.n c.if-n-gt9218868437227405312.false
