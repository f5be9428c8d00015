use Rattle.std.proofs.Common.{◌≡◌, ◌+◌, ◌-◌, refl, ap, ◌∙◌, length, length-set, arith}
use Rattle.std.specs.Float.{binary64}
use Rattle.roots.specs.Root.{sqrt_of}
use Rattle.loops.proofs.Filling.{fill_turn, fill_first, fill_over}
use Rattle.byte_lists.specs.Bytes.{doubles_of}
use Rattle.timing.specs.Times.{time_at}
use Rattle.timing.proofs.Timing.{time_turn}
use Rattle.timing.proofs.times.fill.Goals as goal

pub loop-k-init : goal.loop-k-init
unfolding time_at
loop-k-init c = record {
  time = refl;
  here = c.get-here.ensures;
  root = c.sqrt-root.ensures.is ∙ ap (sqrt_of binary64) c.get.ensures;
  room = simp length-set c.requires;
  left = fill_first _ c.args.out.now _ (omega arith) refl;
}

pub loop-k-preserved : goal.loop-k-preserved
loop-k-preserved c =
    let i = c.loop-k.invariant in
    let k = c.loop-k.k in
    let there = c.get-there.ensures in
    let g = c.sqrt-next.ensures.is ∙ ap (sqrt_of binary64) c.get-in-loop-k.ensures in
    let e = rw (← c.leg-t.ensures) at (time_turn _ _ _ k _ _ _ _ _ (omega arith) i.time i.here there i.root g) in
    let next : k + 1 - 1 ≡ k = omega arith in
    rw next (record { time = e; here = there; root = g; room = simp length-set i.room; left = fill_turn _ _ _ _ _ (omega arith) i.left e })

pub returns : goal.returns
returns c =
    let i = c.loop-k.invariant in
    let n : c.loop-k.k ≡ length (doubles_of c.args.p.stations.bytes.now) = omega arith in
    (rw n at i.time, (rw n at i.left) ∙ fill_over _ _ _ 0 _ (omega arith))
