use Rattle.std.proofs.Common.{◌≡◌, ◌+◌, ◌-◌, refl, sym, ap, ◌∙◌, arith, rules}
use Rattle.loops.proofs.Filling.{fill_none, fill_on, fill_stands}
use lib.Ieee.{of_bits}
use Rattle.byte_lists.specs.Bytes.{doubles_of, byte_of}
use Rattle.byte_lists.proofs.Encoding.{fill_put}
use Rattle.following.specs.Following.{station_of}
use Rattle.following.proofs.Cursors.{inside_first, counts_none, counts_turn, counts_up_to, counts_written, counts_bounded, last_entry_lem}
use Rattle.following.proofs.pass.go_through.Goals as goal

pub loop-j-init : goal.loop-j-init
unfolding of_bits
loop-j-init g c = record {
  within = omega arith;
  room = c.requires;
  few = omega (arith, c.requires);
  stands = record { within = omega arith; behind = λ i l. absurd (omega arith); ends = c.double_at.ensures; held = c.piece_at.ensures };
  counts = counts_none _ _;
  last = refl;
  left = sym (fill_none _ _);
}

pub advance-w-requires : goal.advance-w-requires
advance-w-requires g c = c.loop-j.invariant.stands

pub is_inside-inside-requires : goal.is_inside-inside-requires
is_inside-inside-requires g c = c.advance-w.ensures.0

pub station-last-requires : goal.station-last-requires
station-last-requires g c = (c.advance-w.ensures.0, c.advance-w.ensures.2, c.is_inside-inside.ensures)

pub overflow_add-j : goal.overflow_add-j
overflow_add-j g c =
    let l = c.loop-j.invariant in
    omega (arith, l.within, l.few)

pub follow-f-requires : goal.follow-f-requires
follow-f-requires g c =
    let l = c.loop-j.invariant in
    let f = station_of (doubles_of c.args.p.s.now) (doubles_of c.args.p.a.now) (doubles_of c.args.p.t.now) (g.X.Times.time c.args.x) in
    let w = c.advance-w.ensures in
    let e = rw c.time-v.ensures at c.station-last.ensures in
    let inside = sym c.is_inside-inside.ensures ∙ c.if-inside.true in
    let q = fill_put f c.loop-j.j _ c.args.out.now c.loop-j.out _ (omega (arith, c.loop-j-test.true, l.room)) l.left e c.put.ensures in
    let k : c.loop-j.j ≡ c.loop-j.j + 1 - 1 = omega arith in
    record {
      stands = w.2;
      found = rw w.1 w.0;
      inside = rw w.1 inside;
      within = omega (arith, c.loop-j-test.true);
      room = search rules;
      last = e ∙ ap f k;
      written = fill_stands _ _ _ _ q;
    }

pub overflow_sub-f : goal.overflow_sub-f
overflow_sub-f g c = omega (arith, c.follow-f.ensures.onward)

pub more_inside-counts-requires : goal.more_inside-counts-requires
more_inside-counts-requires g c =
    let l = c.loop-j.invariant in
    let f = c.follow-f.ensures in
    (omega (arith, counts_written _ _ _ _ l.counts, f.onward, f.within, l.few), counts_bounded _ _ _ _ l.counts (omega (arith, l.within, l.few)))

pub loop-j-smaller-then-inside : goal.loop-j-smaller-then-inside
loop-j-smaller-then-inside g c = let f = c.follow-f.ensures in omega (arith, f.onward, f.within)

pub loop-j-preserved-then-inside : goal.loop-j-preserved-then-inside
loop-j-preserved-then-inside g c =
    let l = c.loop-j.invariant in
    let f = station_of (doubles_of c.args.p.s.now) (doubles_of c.args.p.a.now) (doubles_of c.args.p.t.now) (g.X.Times.time c.args.x) in
    let w = c.advance-w.ensures in
    let v = c.time-v.ensures in
    let e = rw v at c.station-last.ensures in
    let inside = sym c.is_inside-inside.ensures ∙ c.if-inside.true in
    let q = fill_put f c.loop-j.j _ c.args.out.now c.loop-j.out _ (omega (arith, c.loop-j-test.true, l.room)) l.left e c.put.ensures in
    let r = c.follow-f.ensures in
    let h = fill_on (byte_of f) _ _ _ _ _ (omega (arith, r.onward)) q r.left in
    let d = counts_up_to _ _ _ _ _ _ l.counts (omega (arith, r.onward)) (inside_first _ _ _ _ (rw v at inside) r.inside) c.more_inside-counts.ensures in
    record { within = r.within; room = search rules; few = l.few; stands = w.2; counts = d; last = last_entry_lem f _ _ (omega (arith, r.onward)) r.last; left = h }

pub tally-counts-requires : goal.tally-counts-requires
tally-counts-requires g c =
    let l = c.loop-j.invariant in
    (c.advance-w.ensures.0, counts_bounded _ _ _ _ l.counts (omega (arith, l.within, l.few)))

pub overflow_add-j-else-inside : goal.overflow_add-j-else-inside
overflow_add-j-else-inside g c = let l = c.loop-j.invariant in omega (arith, l.within, l.few)

pub loop-j-preserved : goal.loop-j-preserved
loop-j-preserved g c =
    let l = c.loop-j.invariant in
    let f = station_of (doubles_of c.args.p.s.now) (doubles_of c.args.p.a.now) (doubles_of c.args.p.t.now) (g.X.Times.time c.args.x) in
    let w = c.advance-w.ensures in
    let v = c.time-v.ensures in
    let e = rw v at c.station-last.ensures in
    let q = fill_put f c.loop-j.j _ c.args.out.now c.loop-j.out _ (omega (arith, c.loop-j-test.true, l.room)) l.left e c.put.ensures in
    let k : c.loop-j.j ≡ c.loop-j.j + 1 - 1 = omega arith in
    let d = (rw v at c.tally-counts.ensures) ∙ counts_turn _ _ _ _ l.counts in
    record { within = omega arith; room = search rules; few = l.few; stands = w.2; counts = d; last = last_entry_lem f _ _ (omega arith) (e ∙ ap f k); left = q }

pub returns : goal.returns
returns g c =
    let l = c.loop-j in
    let e : l.j ≡ c.args.n = omega arith in
    record { counts = rw e at l.invariant.counts; last = rw e at l.invariant.last; left = rw e at l.invariant.left }
