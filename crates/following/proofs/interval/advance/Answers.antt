use Rattle.std.proofs.Common.{refl, arith}
use Rattle.byte_lists.specs.Bytes.{doubles_of}
use Rattle.byte_lists.proofs.Fronts.{length_doubles}
use Rattle.following.proofs.Cursors.{interval_le, ends_below}
use Rattle.following.proofs.interval.advance.Goals as goal

pub look_from-requires : goal.look_from-requires
look_from-requires c = let p = c.requires in (p.within, p.behind)

pub interval_from-k-requires : goal.interval_from-k-requires
interval_from-k-requires c = c.look_from.ensures

pub overflow_add-k : goal.overflow_add-k
overflow_add-k c =
    let a = c.args in
    omega (arith, c.interval_from-k.ensures, interval_le (doubles_of a.p.t.now) a.x, length_doubles a.p.t.now)

pub turned-requires : goal.turned-requires
turned-requires c =
    (omega (arith, c.interval_from-k.ensures, interval_le (doubles_of c.args.p.t.now) c.args.x, length_doubles c.args.p.t.now), c.requires.held)

pub returns : goal.returns
returns c =
    let e = c.interval_from-k.ensures in (
      e,
      refl,
      record { within = rw e (interval_le _ _); behind = λ k h. ends_below _ _ k (rw e at h); ends = c.double_at.ensures; held = c.turned.ensures },
    )
