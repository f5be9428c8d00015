use Rattle.std.proofs.Common.{arith}
use Rattle.byte_lists.specs.Bytes.{doubles_of}
use Rattle.byte_lists.proofs.Fronts.{length_doubles}
use Rattle.following.specs.Places.{is_inside}
use Rattle.following.proofs.Cursors.{interval_le, next_within}
use Rattle.following.proofs.pass.is_inside.Goals as goal

pub overflow_add-result : goal.overflow_add-result
overflow_add-result c =
    omega (arith, c.requires, interval_le (doubles_of c.args.t.now) c.args.x, length_doubles c.args.t.now)

pub returns-then-not-is_before : goal.returns-then-not-is_before
unfolding is_inside
returns-then-not-is_before c =
    rw (← c.is_before.ensures, c.if-not-is_before.true, ← c.requires, length_doubles c.args.t.now) (next_within c.args.k _)

pub returns-else-not-is_before : goal.returns-else-not-is_before
unfolding is_inside
returns-else-not-is_before c = rw (← c.is_before.ensures, c.if-not-is_before.false)
