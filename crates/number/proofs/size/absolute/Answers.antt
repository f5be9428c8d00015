use lib.Ieee.{binary64, of_bits}
use Rattle.number.proofs.Order.{holds}
use Rattle.number.proofs.Sizes.{absolute_kept, absolute_turned}
use Rattle.number.proofs.size.absolute.Goals as goal

-- `number::size::absolute` meets its contract. Assumes nothing.
pub returns-then-x-turned : goal.returns-then-x-turned
unfolding of_bits
returns-then-x-turned c = absolute_kept binary64 _ (holds c.well_formed.0.1) c.if-x-turned.true

pub returns-else-x-turned : goal.returns-else-x-turned
unfolding of_bits
returns-else-x-turned c = absolute_turned binary64 _ (holds c.well_formed.0.1) c.if-x-turned.false
