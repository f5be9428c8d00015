use lib.Ieee.{binary64, of_bits}
use Rattle.number.proofs.Sizes.{finite_test}
use Rattle.number.proofs.size.finite.Goals as goal

-- `number::size::finite` meets its contract. Assumes nothing.
pub returns : goal.returns
unfolding of_bits
returns c = finite_test binary64 c.args.x
