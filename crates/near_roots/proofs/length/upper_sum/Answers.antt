use Rattle.std.proofs.Common.{◌/◌, refl, lt_of_lt_of_le, lit≤}
use Rattle.near_roots.proofs.UpperSums.{code_sum}
use Rattle.near_roots.proofs.length.upper_sum.Goals as goal

pub returns : goal.returns
returns c =
    let y = c.product-2 in
    let x = c.product in
    code_sum c.args.m c.args.n c.args.d x.result.hi (x.result.hi / 4) y.result.hi (y.result.hi / 4) c.requires.0 c.requires.1 c.requires.2
    x.ensures.0 refl y.ensures.0 refl

pub overflow_add-result : goal.overflow_add-result
overflow_add-result c = record { fits = lt_of_lt_of_le (returns c).1 (lit≤ tt) }
