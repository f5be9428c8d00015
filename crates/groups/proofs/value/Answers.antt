use Rattle.std.proofs.Common.{arith}
use Rattle.groups.proofs.Values.{down_turn, down_fits, down_ends}
use Rattle.groups.proofs.value.Goals as goal

pub overflow_mul-value : goal.overflow_mul-value
overflow_mul-value c =
    let l = c.loop-k in
    let a = c.args in
    let d = down_fits a.bytes.now a.at l.k l.value _ c.loop-k-test.true l.invariant in
    record { fits = omega arith }

pub overflow_add-value-in-loop-k : goal.overflow_add-value-in-loop-k
overflow_add-value-in-loop-k c =
    let l = c.loop-k in
    let a = c.args in
    let d = down_fits a.bytes.now a.at l.k l.value _ c.loop-k-test.true l.invariant in
    record { fits = omega arith }

pub loop-k-preserved : goal.loop-k-preserved
loop-k-preserved c =
    let l = c.loop-k in
    let a = c.args in
    down_turn a.bytes.now a.at l.k l.value _ c.loop-k-test.true l.invariant

pub returns : goal.returns
returns c =
    let l = c.loop-k in
    let a = c.args in
    down_ends a.bytes.now a.at l.k l.value _ (omega arith) l.invariant
