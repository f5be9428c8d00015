use Rattle.std.proofs.Common.{ℕ, ◌+◌, ◌≡◌, sym, ap, ◌∙◌, Bool, cond, ◌&&◌, arith, length, Float}
use Rattle.std.specs.Float.Ieee.Scale.{finite}
use Rattle.loops.specs.Upto.{at}
use Rattle.loops.specs.Entries.{every_entry}
use Rattle.loops.proofs.Counting.{every_none, every_next}
use Rattle.byte_lists.specs.Bytes.{doubles_of}
use Rattle.byte_lists.proofs.Fronts.{length_doubles, pattern_within}
use Rattle.list_tests.proofs.Exponents.{none_more}
use Rattle.list_tests.proofs.tests.all_finite.Goals as goal

pub loop-k-init : goal.loop-k-init
loop-k-init c = (omega arith, sym (every_none _))

pub overflow_add-count : goal.overflow_add-count
overflow_add-count c = omega (arith, c.endless-count.ensures.1)

pub loop-k-preserved : goal.loop-k-preserved
loop-k-preserved c =
    let l = c.loop-k in
    let b = c.args.b.now in
    let same = pattern_within b l.k _ c.loop-k-test.true c.pattern_at.ensures in (
      omega (arith, c.endless-count.ensures.1),
      none_more (finite (at (doubles_of b) l.k)) l.count _ (ap (λ (n : ℕ). l.count + n) (c.endless-count.ensures.0 ∙ ap (λ (x : Float). cond (finite x) 0 1) same))
          ∙ ap (λ (t : Bool). t && finite (at (doubles_of b) l.k)) l.invariant.1
          ∙ sym (every_next _ l.k),
    )

pub returns : goal.returns
unfolding every_entry
returns c =
    let b = c.args.b.now in
    let e : c.loop-k.k ≡ length (doubles_of b) = omega (arith, length_doubles b) in
    rw e at c.loop-k.invariant.1
