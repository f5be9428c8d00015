use Rattle.std.proofs.Common.{◌^◌, arith}
use Rattle.whole_fma.proofs.Borrows.{borrow_small, less_is}
use Rattle.whole_fma.proofs.difference.less.Goals as goal

pub overflow_add-result : goal.overflow_add-result
overflow_add-result c =
    let a = c.args.a in
    let b = c.args.b in
    let w = c.borrow-w in
    record { fits = omega (arith, borrow_small a.hi a.lo b.hi b.lo w.result (2 ^ 64) (omega arith) (omega arith) w.ensures) }

pub returns : goal.returns
returns c =
    let a = c.args.a in
    let b = c.args.b in
    let w = c.borrow-w in
    less_is a.hi a.lo b.hi b.lo w.result (2 ^ 64) (omega arith) (omega arith) w.ensures
