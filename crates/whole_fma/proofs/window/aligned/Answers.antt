use Rattle.whole_fma.specs.TwoLimbs.{whole}
use Rattle.whole_fma.proofs.Windowed.{addend_cut, product_cut}
use Rattle.whole_fma.proofs.window.aligned.Goals as goal

pub returns-then-j-i : goal.returns-then-j-i
returns-then-j-i c =
    let a = c.args in
    addend_cut (whole a.v) a.i a.h a.j (whole c.cut_wide.result) c.if-j-i.true c.cut_wide.ensures

pub returns : goal.returns
returns c =
    let a = c.args in
    product_cut (whole a.v) a.i a.h a.j (whole c.cut_wide-2.result) c.if-j-i.false c.cut_wide-2.ensures
