use Rattle.std.proofs.Common.{◌≡◌, ◌-◌, ◌≤◌, length}
use Rattle.std.specs.Float.{binary64}
use Rattle.roots.specs.Root.{sqrt_of}
use Rattle.loops.specs.Upto.{filled, at}
use Rattle.byte_lists.specs.Bytes.{doubles_of}
use Rattle.timing.specs.Times.{time_at}
use Rattle.timing.proofs.times.fill.Given as goal

abbrev pub invariant-loop-k : goal.invariant-loop-k
invariant-loop-k l =
    let s = doubles_of l.p.stations.bytes.now in
    let a = doubles_of l.p.speeds.bytes.now in record {
      time : l.t ≡ time_at s a l.t0 (l.k - 1);
      here : l.here ≡ at s (l.k - 1);
      root : l.root ≡ sqrt_of binary64 (at a (l.k - 1));
      room : length s ≤ length l.out;
      left : l.out ≡ filled (time_at s a l.t0) l.k l.initial.out;
    }
