use Rattle.std.proofs.Common.{refl, sym, arith}
use Rattle.loops.proofs.Filling.{fill_none}
use Rattle.byte_lists.proofs.Encoding.{fill_put}
use Rattle.timing.proofs.times.write.Goals as goal

pub loop-k-init : goal.loop-k-init
loop-k-init c = sym (fill_none _ _)

pub loop-k-preserved : goal.loop-k-preserved
loop-k-preserved c =
    let l = c.loop-k in
    fill_put _ l.k _ c.args.out.now l.out _ (omega arith) l.invariant refl c.put.ensures
