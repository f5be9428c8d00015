use lib.Ieee.{binary64}
use Rattle.number.proofs.Sizes.{both_finite_test}
use Rattle.rows.proofs.reading.both_finite.Goals as goal

pub returns : goal.returns
returns c = both_finite_test binary64 c.args.x c.args.y
