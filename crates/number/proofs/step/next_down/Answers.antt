use Rattle.std.proofs.Common.{true}
use lib.Ieee.{inf, binary64, of_bits, nan_bits}
use Rattle.number.proofs.Order.{nought, holds, fails, lt_number, not_nan}
use Rattle.number.proofs.Downward.{down_above, down_zero, down_below, down_stays}
use Rattle.number.proofs.step.next_down.Goals as goal

-- `number::step::next_down` meets its contract. Assumes nothing.
pub float_to_bits-result : goal.float_to_bits-result
unfolding of_bits
float_to_bits-result c = not_nan _ (lt_number nought _ (holds c.if-x.true)).1

pub overflow_sub-result : goal.overflow_sub-result
unfolding of_bits
overflow_sub-result c = (down_above binary64 _ (holds c.well_formed.0.1) (holds c.if-x.true)).0

pub float_from_bits-result : goal.float_from_bits-result
unfolding of_bits
float_from_bits-result c = (down_above binary64 _ (holds c.well_formed.0.1) (holds c.if-x.true)).1.no_nan

pub returns-then-x : goal.returns-then-x
unfolding of_bits
returns-then-x c = (down_above binary64 _ (holds c.well_formed.0.1) (holds c.if-x.true)).1.reads

pub float_from_bits-result-then-x-2 : goal.float_from_bits-result-then-x-2
unfolding nan_bits
float_from_bits-result-then-x-2 c = tt

pub returns-then-x-2 : goal.returns-then-x-2
unfolding of_bits
returns-then-x-2 c = down_zero binary64 _ (holds c.if-x-2.true)

pub float_to_bits-result-then-x-3 : goal.float_to_bits-result-then-x-3
unfolding of_bits
float_to_bits-result-then-x-3 c = not_nan _ (lt_number (inf true) _ (holds c.if-x-3.true)).1

pub overflow_add-result : goal.overflow_add-result
unfolding of_bits
overflow_add-result c = record { fits = (down_below binary64 _ (holds c.well_formed.0.1) (fails c.if-x.false) (fails c.if-x-2.false) (holds c.if-x-3.true)).0 }

pub float_from_bits-result-then-x-3 : goal.float_from_bits-result-then-x-3
unfolding of_bits
float_from_bits-result-then-x-3 c = (down_below binary64 _ (holds c.well_formed.0.1) (fails c.if-x.false) (fails c.if-x-2.false) (holds c.if-x-3.true)).1.no_nan

pub returns-then-x-3 : goal.returns-then-x-3
unfolding of_bits
returns-then-x-3 c = (down_below binary64 _ (holds c.well_formed.0.1) (fails c.if-x.false) (fails c.if-x-2.false) (holds c.if-x-3.true)).1.reads

pub returns : goal.returns
unfolding of_bits
returns c = down_stays binary64 _ (fails c.if-x-3.false)
