use Rattle.std.proofs.Common.{◌≡◌, ◌-◌, length, sym, arith}
use Rattle.loops.proofs.Filling.{fill_none}
use Rattle.byte_lists.specs.Bytes.{doubles_of}
use Rattle.byte_lists.proofs.Encoding.{fill_put}
use Rattle.sloping.proofs.slopes.fill.Goals as goal

pub loop-k-init : goal.loop-k-init
loop-k-init c = sym (fill_none _ _)

pub loop-k-preserved : goal.loop-k-preserved
loop-k-preserved c =
    let l = c.loop-k in
    fill_put _ l.k _ c.args.out.now l.out _ (omega arith) l.invariant c.slope.ensures c.put.ensures

pub returns-after-loop-k : goal.returns-after-loop-k
returns-after-loop-k c =
    let e : c.loop-k.k ≡ length (doubles_of c.args.p.stations.bytes.now) - 1 = omega arith in
    rw e at c.loop-k.invariant
