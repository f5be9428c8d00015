use Rattle.std.proofs.Common.{◌^◌, sym, ◌∙◌, le_of_lt, arith, pow_pos, ltb-false, ltb-true}
use Rattle.whole_fma.specs.TwoLimbs.{whole}
use Rattle.whole_fma.proofs.Windowed.{joined_like, joined_less, joined_more, joined_none, plus_whole, none_left, some_low, some_high}
use Rattle.whole_fma.proofs.window.joined.Goals as goal
use Rattle.whole_fma.proofs.window.joined.Goals.{else-d-eq0-via-then-d-eq0+else-d-eq0-2, else-d-eq0-via-else-d-eq0}

pub returns-then-s-t : goal.returns-then-s-t
returns-then-s-t c =
    let a = c.args.a in
    let b = c.args.b in
    let r = c.plus.result in
    joined_like c.args.s c.args.t (whole a) (whole b) (whole r) c.if-s-t.true
    (plus_whole a.hi a.lo b.hi b.lo r.hi r.lo c.requires.0 c.requires.1 (omega arith) (omega arith) c.plus.ensures.0 c.plus.ensures.1)

pub minus-requires : goal.minus-requires
minus-requires c =
    (c.requires.0, le_of_lt (ltb-true (whole c.args.a) (whole c.args.b) (sym c.less.ensures ∙ c.if-less.true)))

pub returns-then-less : goal.returns-then-less
returns-then-less c =
    let s = c.args in
    joined_less s.s s.t (whole s.a) (whole s.b) (whole c.minus.result) c.if-s-t.false
    (sym c.less.ensures ∙ c.if-less.true) c.minus.ensures

pub minus-d-requires : goal.minus-d-requires
minus-d-requires c =
    (c.requires.1, ltb-false (whole c.args.a) (whole c.args.b) (sym c.less.ensures ∙ c.if-less.false))

pub returns-then-d-eq0-2 : goal.returns-then-d-eq0-2
returns-then-d-eq0-2 c =
    let s = c.args in
    let d = c.minus-d in
    joined_none s.s s.t (whole s.a) (whole s.b) (whole d.result) c.if-s-t.false
    (none_left d.result.hi d.result.lo (2 ^ 64) c.if-d-eq0.true c.if-d-eq0-2.true) d.ensures

pub returns : goal.returns
returns c =
    let s = c.args in
    let d = c.minus-d in
    joined_more s.s s.t (whole s.a) (whole s.b) (whole d.result) c.if-s-t.false
    (elim c.else-d-eq0.branch [
      | else-d-eq0-via-then-d-eq0+else-d-eq0-2 w ↦ some_low d.result.hi d.result.lo (2 ^ 64) w.if-d-eq0-2.false
      | else-d-eq0-via-else-d-eq0 w ↦ some_high d.result.hi d.result.lo (2 ^ 64) (pow_pos 64) w.if-d-eq0.false
    ])
    d.ensures
