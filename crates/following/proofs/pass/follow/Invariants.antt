use Rattle.std.proofs.Common.{◌≡◌, ◌-◌, ◌*◌}
use Rattle.loops.specs.Upto.{filled}
use Rattle.byte_lists.specs.Bytes.{doubles_of, byte_of}
use Rattle.following.specs.Following.{station_of, AllInside}
use Rattle.following.proofs.pass.follow.Given as goal

abbrev pub invariant-loop-j : goal.invariant-loop-j
invariant-loop-j g l =
    let f = station_of (doubles_of l.p.s.now) (doubles_of l.p.a.now) (doubles_of l.p.t.now) (g.X.Times.time l.x) in record {
      inside : AllInside (doubles_of l.p.t.now) (g.X.Times.time l.x) l.start l.j;
      last : l.last ≡ f (l.j - 1);
      left : l.out ≡ filled (byte_of f) (8 * l.j) l.initial.out;
    }
