use Rattle.std.proofs.Common.{arith, rules}
use Rattle.following.proofs.Cursors.{still_below}
use Rattle.following.proofs.interval.look_from.Goals as goal

-- `following::interval::look_from` meets its contract. Assumes nothing.
pub returns-then-y-x : goal.returns-then-y-x
returns-then-y-x c = (c.requires.0, λ k h. still_below _ _ _ (c.requires.1 k h) c.if-y-x.true)

pub returns-else-y-x : goal.returns-else-y-x
returns-else-y-x c = (search rules, λ k h. absurd (omega arith))
