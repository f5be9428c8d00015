use Rattle.std.proofs.Common.{◌∙◌, zero-add, arith}
use Rattle.whole_fma.proofs.Cuts.{wide_near, wide_fits, limb_kept, limb_lost, wide_far}
use Rattle.whole_fma.proofs.sticky.cut_wide.Goals as goal
use Rattle.whole_fma.proofs.sticky.cut_wide.Goals.{then-n-ne0, else-n-ne0}

pub overflow_add-result : goal.overflow_add-result
overflow_add-result c =
    let a = c.args in
    let w = c.cut_word-w in
    record { fits = wide_fits a.n.hi a.n.lo a.sh w.result (omega arith) c.if-sh-lt64.true w.ensures }

pub returns-then-sh-lt64 : goal.returns-then-sh-lt64
returns-then-sh-lt64 c =
    let a = c.args in
    let w = c.cut_word-w in
    wide_near a.n.hi a.n.lo a.sh w.result (omega arith) c.if-sh-lt64.true w.ensures

pub returns : goal.returns
returns c =
    let a = c.args in
    let n = a.n in
    let w = c.if-n-ne0.w in
    zero-add c.cut_word.result
    ∙ c.cut_word.ensures
    ∙ wide_far n.hi n.lo w (omega arith) a.sh c.if-sh-lt64.false
    (elim c.if-n-ne0.branch [
      | then-n-ne0 e ↦ limb_lost n.hi n.lo w (omega arith) e.if-n-ne0.true e.w-is
      | else-n-ne0 e ↦ limb_kept n.hi n.lo w (omega arith) e.if-n-ne0.false e.w-is
    ])
