use Rattle.std.proofs.Common.{ℕ, ◌+◌, ◌^◌, ◌<◌, ◌≤◌, arith}
use Rattle.whole_fma.proofs.Borrows.{borrow_small, minus_high, minus_is, minus_low}
use Rattle.whole_fma.proofs.difference.minus.Goals as goal

small : (b w : ℕ) → b < 2 ^ 63 → w ≤ 1 → b + w < 2 ^ 64
small b w h l = omega arith

pub overflow_add-result : goal.overflow_add-result
overflow_add-result c =
    let a = c.args.a in
    let b = c.args.b in
    let w = c.borrow-w in
    record { fits = small b.hi w.result c.requires.0 (borrow_small a.hi a.lo b.hi b.lo w.result (2 ^ 64) (omega arith) (omega arith) w.ensures) }

pub overflow_sub-result : goal.overflow_sub-result
overflow_sub-result c =
    let a = c.args.a in
    let b = c.args.b in
    let w = c.borrow-w in
    minus_high a.hi a.lo b.hi b.lo w.result (2 ^ 64) (omega arith) (omega arith) w.ensures c.requires.1

pub returns : goal.returns
returns c =
    let a = c.args.a in
    let b = c.args.b in
    let w = c.borrow-w in
    minus_is a.hi a.lo b.hi b.lo w.result (2 ^ 64) (omega arith) (omega arith) w.ensures _
    (minus_high a.hi a.lo b.hi b.lo w.result (2 ^ 64) (omega arith) (omega arith) w.ensures c.requires.1)
    (minus_low _ a.lo b.lo w.result (omega arith) (omega arith) (omega arith) (omega arith) w.ensures)
