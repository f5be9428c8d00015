use Rattle.std.proofs.Common.{◌≡◌, ◌*◌}
use Rattle.loops.specs.Upto.{filled}
use Rattle.byte_lists.specs.Bytes.{doubles_of, byte_of}
use Rattle.sloping.specs.Slopes.{slope}
use Rattle.sloping.proofs.slopes.fill.Given as goal

abbrev pub invariant-loop-k : goal.invariant-loop-k
invariant-loop-k l =
    l.out ≡ filled (byte_of (slope (doubles_of l.p.stations.bytes.now) (doubles_of l.p.speeds.bytes.now))) (8 * l.k) l.initial.out
