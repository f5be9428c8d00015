use mathlib.Core.Path.{sym, subst}
use Prim.Native.Nat.{ℕ, ◌^◌, ◌<◌}
use native.Mathlib.Nat.{le_of_lt, lt_of_lt_of_le, mul-le-mul_left}
use Rattle.exact_roots.proofs.Roots.{square_rises}
use Rattle.roots.proofs.Rounds.{round_ends, round_below, root_pos}
use Rattle.roots.proofs.floor_root.heron.Goals as goal

pub loop-s-init : goal.loop-s-init
loop-s-init c =
    let g = c.guess in
    round_ends c.args.n g.result c.closer-s.result g.ensures.0 g.ensures.1 c.closer-s.ensures

pub overflow_mul-s : goal.overflow_mul-s
overflow_mul-s c = record { fits = square_rises c.loop-s.s (2 ^ 32) c.loop-s.invariant.1 }

pub closer-s-requires-in-loop-s : goal.closer-s-requires-in-loop-s
closer-s-requires-in-loop-s c =
    (c.requires, root_pos c.args.n c.loop-s.s c.loop-s-test.true, c.loop-s.invariant.1)

pub loop-s-smaller : goal.loop-s-smaller
loop-s-smaller c =
    let n = c.args.n in
    let s = c.loop-s.s in
    subst (λ (x : ℕ). x < s) (sym c.closer-s-in-loop-s.ensures) (round_below n s c.loop-s-test.true)

pub loop-s-preserved : goal.loop-s-preserved
loop-s-preserved c =
    let n = c.args.n in
    let l = c.loop-s in
    let between = lt_of_lt_of_le c.loop-s-test.true (mul-le-mul_left l.s (le_of_lt l.invariant.1)) in
    round_ends n l.s c.closer-s-in-loop-s.result between l.invariant.1 c.closer-s-in-loop-s.ensures

pub returns : goal.returns
returns c = (c.loop-s-test.false, c.loop-s.invariant.0)
