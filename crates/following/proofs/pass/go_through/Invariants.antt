use Rattle.std.proofs.Common.{◌≡◌, ◌-◌, ◌*◌, ◌/◌, ◌^◌, ◌≤◌, length}
use Rattle.loops.specs.Upto.{filled}
use Rattle.byte_lists.specs.Bytes.{doubles_of, byte_of}
use Rattle.following.specs.Places.{counts_of}
use Rattle.following.specs.Following.{station_of, last_entry, Standing}
use Rattle.following.proofs.pass.go_through.Given as goal

abbrev pub invariant-loop-j : goal.invariant-loop-j
invariant-loop-j g l =
    let x = g.X.Times.time l.x in
    let f = station_of (doubles_of l.p.s.now) (doubles_of l.p.a.now) (doubles_of l.p.t.now) x in record {
      within : l.j ≤ l.n;
      room : l.n ≤ length l.out / 8;
      few : l.n ≤ 2 ^ 61;
      stands : Standing (doubles_of l.p.s.now) (doubles_of l.p.a.now) (doubles_of l.p.t.now) l.w;
      counts : l.counts ≡ counts_of (doubles_of l.p.t.now) x l.j l.j;
      last : l.last ≡ last_entry f l.j;
      left : l.out ≡ filled (byte_of f) (8 * l.j) l.initial.out;
    }

abbrev pub decreases-loop-j : goal.decreases-loop-j
decreases-loop-j g l = l.n - l.j
