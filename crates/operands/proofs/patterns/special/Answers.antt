use Rattle.std.proofs.Common.{◌∙◌}
use borrow.Author.Tests.{eq-eqb}
use Rattle.operands.proofs.Operands.{special_zero, special_rest}
use Rattle.operands.proofs.patterns.special.Goals as goal

pub returns-then-p-eq0 : goal.returns-then-p-eq0
returns-then-p-eq0 c = eq-eqb _ _ c.if-p-eq0.true ∙ special_zero c.args.b c.ranges.b.fits c.if-p-eq0.true

pub returns-else-p-eq0 : goal.returns-else-p-eq0
returns-else-p-eq0 c = special_rest c.args.b c.ranges.b.fits c.if-p-eq0.false
