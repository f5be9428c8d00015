use mathlib.Core.Path.{ap₂, ◌∙◌}
use native.Mathlib.Omega.{arith}
use Rattle.exact_roots.specs.CutRoot.{stick_more}
use Rattle.roots.proofs.Squares.{given}
use Rattle.roots.proofs.hypot.sum_root.Goals as goal

pub overflow_add-t : goal.overflow_add-t
overflow_add-t c =
    let r = c.requires in
    let y = c.product in
    let v = c.cut-c in
    let x = c.product-2 in
    let w = c.plus-t in
    let g =
    given c.args.x c.args.y c.args.s r.0 r.1 r.2 r.3
    y.result.hi y.result.lo v.result.whole.hi v.result.whole.lo v.result.rest
    x.result.hi x.result.lo w.result.hi w.result.lo
    y.ensures v.ensures x.ensures w.ensures in
    record { fits = omega (arith, g.most) }

pub root-requires : goal.root-requires
root-requires c =
    let r = c.requires in
    let y = c.product in
    let v = c.cut-c in
    let x = c.product-2 in
    let w = c.plus-t in
    let g =
    given c.args.x c.args.y c.args.s r.0 r.1 r.2 r.3
    y.result.hi y.result.lo v.result.whole.hi v.result.whole.lo v.result.rest
    x.result.hi x.result.lo w.result.hi w.result.lo
    y.ensures v.ensures x.ensures w.ensures in
    (g.least, g.most, g.low, g.rest_lt)

pub returns : goal.returns
returns c =
    let r = c.requires in
    let y = c.product in
    let v = c.cut-c in
    let x = c.product-2 in
    let w = c.plus-t in
    let g =
    given c.args.x c.args.y c.args.s r.0 r.1 r.2 r.3
    y.result.hi y.result.lo v.result.whole.hi v.result.whole.lo v.result.rest
    x.result.hi x.result.lo w.result.hi w.result.lo
    y.ensures v.ensures x.ensures w.ensures in
    c.root.ensures ∙ ap₂ stick_more g.value g.rest
