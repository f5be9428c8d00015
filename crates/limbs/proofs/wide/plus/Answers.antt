use Rattle.std.proofs.Common.{◌+◌, ◌%◌, ◌^◌, refl, arith}
use Rattle.limbs.proofs.HalfWords.{carried, not_carried}
use Rattle.limbs.proofs.wide.plus.Goals as goal

pub returns-then-lo-a : goal.returns-then-lo-a
returns-then-lo-a c =
    let a = c.args.a in
    let b = c.args.b in
    (carried (a.hi + b.hi) a.lo b.lo ((a.lo + b.lo) % 2 ^ 64) (omega arith) (omega arith) refl c.if-lo-a.true, refl)

pub returns : goal.returns
returns c =
    let a = c.args.a in
    let b = c.args.b in
    (not_carried (a.hi + b.hi) a.lo b.lo ((a.lo + b.lo) % 2 ^ 64) (omega arith) (omega arith) refl c.if-lo-a.false, refl)
