use Rattle.std.proofs.Common.{sym}
use lib.Ieee.{of_bits}
use Rattle.byte_lists.proofs.Fronts.{double_past, pattern_within}
use Rattle.list_tests.proofs.Exponents.{no_nan}
use Rattle.list_tests.proofs.tests.Finite.get.Goals as goal

pub float_from_bits-result : goal.float_from_bits-result
float_from_bits-result c = no_nan c.args.self.bytes.now c.args.k _ c.if-k-self.true c.args.self.every_finite c.pattern_at.ensures

pub returns-then-k-self : goal.returns-then-k-self
returns-then-k-self c = pattern_within c.args.self.bytes.now c.args.k _ c.if-k-self.true c.pattern_at.ensures

pub returns-else-k-self : goal.returns-else-k-self
unfolding of_bits
returns-else-k-self c = sym (double_past c.args.self.bytes.now c.args.k c.if-k-self.false)
