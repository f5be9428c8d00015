use Rattle.std.proofs.Common.{◌≡◌, ◌+◌, ◌-◌, sym, ap, ◌∙◌, arith}
use Rattle.byte_lists.specs.Bytes.{doubles_of}
use Rattle.byte_lists.proofs.Encoding.{fill_put}
use Rattle.following.specs.Following.{station_of}
use Rattle.following.proofs.Cursors.{stays_entry, inside_more}
use Rattle.following.proofs.pass.follow.Goals as goal

pub loop-j-preserved : goal.loop-j-preserved
loop-j-preserved g c =
    let i = c.loop-j.invariant in
    let p = c.requires in
    let a = c.args.p in
    let time = g.X.Times.time c.args.x in
    let f = station_of (doubles_of a.s.now) (doubles_of a.a.now) (doubles_of a.t.now) time in
    let y = sym c.stays.ensures ∙ c.if-not-stays.false in
    let e = stays_entry _ _ _ _ _ p.stands p.found p.inside y _ time c.loop-j.j c.time-y.ensures c.inside-last.ensures in
    let k : c.loop-j.j ≡ c.loop-j.j + 1 - 1 = omega arith in record {
      inside = inside_more _ _ _ _ i.inside e.0;
      last = e.1 ∙ ap f k;
      left = fill_put f c.loop-j.j _ c.args.out.now c.loop-j.out _ (omega arith) i.left e.1 c.put.ensures;
    }
