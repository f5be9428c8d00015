use Rattle.std.proofs.Common.{◌≡◌, sym, ap, ap₂, ◌∙◌, ◌&&◌, not, arith}
use Rattle.std.specs.Float.Ieee.{Float, lt}
use Rattle.number.specs.Doubles.{zero}
use Rattle.loops.specs.Upto.{every}
use Rattle.loops.specs.Entries.{every_entry}
use Rattle.loops.proofs.Counting.{every_none, every_next}
use Rattle.list_tests.specs.Tests.{not_below_zero}
use Rattle.list_tests.proofs.tests.Finite.none_below_zero.Goals as goal

pub loop-k-init : goal.loop-k-init
loop-k-init c = sym (every_none _)

pub loop-k-preserved : goal.loop-k-preserved
unfolding not_below_zero
loop-k-preserved c =
    ap₂ ◌&&◌ c.loop-k.invariant (ap (λ (x : Float). not (lt x zero)) c.get.ensures) ∙ sym (every_next _ _)

pub returns : goal.returns
unfolding every_entry
returns c =
    let e : c.loop-k.k ≡ c.len-k-end.result = omega arith in
    (rw e at c.loop-k.invariant) ∙ ap (every _) c.len-k-end.ensures
