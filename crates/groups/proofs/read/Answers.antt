use Rattle.std.proofs.Common.{arith}
use Rattle.loops.proofs.Counting.{first_has}
use Rattle.groups.proofs.read.Goals as goal

pub last_group-k-requires : goal.last_group-k-requires
last_group-k-requires c = omega (arith, c.room-room.ensures)

pub end_at-requires : goal.end_at-requires
end_at-requires c =
    let e = c.room-room.ensures in
    let f = c.last_group-k.ensures in
    (omega arith, omega arith, rw f (first_has _ _ (rw f at c.if-k-room.true)))
