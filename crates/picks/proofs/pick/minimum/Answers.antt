use mathlib.Core.Path.{sym, ◌∙◌}
use lib.Ieee.{binary64}
use Rattle.number.proofs.Order.{holds, le_number, eq_le, not_nan}
use Rattle.number.proofs.Picks.{minimum_less, minimum_more, minimum_negative, minimum_other, minimum_nan}
use Rattle.picks.proofs.pick.minimum.Goals as goal

-- `picks::pick::minimum` meets its contract. Assumes nothing.
pub returns-then-x-y : goal.returns-then-x-y
returns-then-x-y c = minimum_less _ _ c.if-x-y.true

pub returns-then-y-x : goal.returns-then-y-x
returns-then-y-x c = minimum_more _ _ c.if-y-x.true

pub negative-requires : goal.negative-requires
negative-requires c = not_nan _ (le_number _ _ (eq_le _ _ (holds c.if-x-y-2.true))).0

pub returns-then-negative : goal.returns-then-negative
returns-then-negative c = minimum_negative _ _ c.if-x-y-2.true (sym c.negative.ensures ∙ c.if-negative.true)

pub returns-else-negative : goal.returns-else-negative
returns-else-negative c =
    minimum_other binary64 _ _ (holds c.well_formed.0.1) (holds c.well_formed.1.0.1) c.if-x-y-2.true (sym c.negative.ensures ∙ c.if-negative.false)

pub returns : goal.returns
returns c = c.other.ensures ∙ minimum_nan _ _ c.if-x-y.false c.if-y-x.false c.if-x-y-2.false
