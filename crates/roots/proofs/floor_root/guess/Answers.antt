use native.Mathlib.Omega.{arith}
use Rattle.roots.proofs.Rounds.{quotient_fits, start_between}
use Rattle.roots.proofs.floor_root.guess.Goals as goal

pub overflow_add-result : goal.overflow_add-result
overflow_add-result c =
    let g = c.line-g in
    let q = quotient_fits c.args.n g.result g.ensures.0 g.ensures.1 g.ensures.2 in
    record { fits = omega (arith, q, g.ensures.1) }

pub overflow_mul-result : goal.overflow_mul-result
overflow_mul-result c =
    let g = c.line-g in
    let q = quotient_fits c.args.n g.result g.ensures.0 g.ensures.1 g.ensures.2 in
    record { fits = omega (arith, q, g.ensures.1) }

pub returns : goal.returns
returns c =
    let g = c.line-g in
    let q = quotient_fits c.args.n g.result g.ensures.0 g.ensures.1 g.ensures.2 in
    (start_between c.args.n g.result g.ensures.0 g.ensures.1 g.ensures.2, omega (arith, q, g.ensures.1))
