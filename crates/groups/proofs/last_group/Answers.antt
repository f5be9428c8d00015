use Rattle.std.proofs.Common.{sym, arith}
use borrow.Author.Tests.{lt-ltb}
use Rattle.loops.proofs.Counting.{first_is}
use Rattle.groups.proofs.last_group.Goals as goal

pub returns-then-bytes-at-lt128 : goal.returns-then-bytes-at-lt128
returns-then-bytes-at-lt128 c =
    let l = c.loop-k in
    sym (first_is _ _ l.k (omega arith) l.invariant (λ _. lt-ltb _ _ c.if-bytes-at-lt128.true))

pub returns : goal.returns
returns c =
    let l = c.loop-k in
    sym (first_is _ _ c.args.room (omega arith) (λ j h. l.invariant j (omega arith)) (λ h. absurd (omega arith)))
