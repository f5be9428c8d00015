use Rattle.std.proofs.Common.{◌≤◌, refl, sym, ◌∙◌, arith, length, rules}
use Rattle.byte_lists.specs.Bytes.{doubles_of}
use Rattle.byte_lists.proofs.Replies.{replies}
use Rattle.timing.proofs.Timing.{told_by_last, written_same}
use Rattle.timing.proofs.times.settle.Goals as goal

pub returns-in_err-unless : goal.returns-in_err-unless
returns-in_err-unless c =
    let last = told_by_last _ _ _ _ (omega arith) c.fill-last.ensures.0 ∙ sym c.finite.ensures in
    rw last (search rules)

pub returns : goal.returns
returns c =
    let last = told_by_last _ _ _ _ (omega arith) c.fill-last.ensures.0 ∙ sym c.finite.ensures in
    let fits : length (doubles_of c.args.p.stations.bytes.now) ≤ length c.fill-last.new.out = omega arith in
    replies (rw last c.in_ok-unless.ensures) refl ((rw c.len.ensures at c.write.ensures) ∙ written_same _ _ _ _ _ fits c.fill-last.ensures.1)
