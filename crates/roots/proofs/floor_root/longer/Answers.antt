use native.Mathlib.Omega.{arith}
use Rattle.roots.proofs.Rounds.{bounds, code_less, code_more, code_same}
use Rattle.roots.proofs.floor_root.longer.Goals as goal

pub overflow_add-r : goal.overflow_add-r
overflow_add-r c = record { fits = omega (arith, bounds c.args.s c.args.t c.args.l c.requires.0 c.requires.2 c.requires.3) }

pub overflow_mul-a : goal.overflow_mul-a
overflow_mul-a c = record { fits = omega (arith, bounds c.args.s c.args.t c.args.l c.requires.0 c.requires.2 c.requires.3) }

pub overflow_mul-b : goal.overflow_mul-b
overflow_mul-b c = record { fits = omega (arith, bounds c.args.s c.args.t c.args.l c.requires.0 c.requires.2 c.requires.3) }

pub overflow_add-b : goal.overflow_add-b
overflow_add-b c = record { fits = omega (arith, bounds c.args.s c.args.t c.args.l c.requires.0 c.requires.2 c.requires.3) }

pub overflow_mul-result : goal.overflow_mul-result
overflow_mul-result c = record { fits = omega (arith, bounds c.args.s c.args.t c.args.l c.requires.0 c.requires.2 c.requires.3) }

pub returns-then-b-a : goal.returns-then-b-a
returns-then-b-a c =
    code_less c.args.s c.args.t c.args.l c.requires.0 c.requires.2 c.requires.3 c.args.z c.if-b-a.true

pub overflow_add-b-2 : goal.overflow_add-b-2
overflow_add-b-2 c = record { fits = omega (arith, bounds c.args.s c.args.t c.args.l c.requires.0 c.requires.2 c.requires.3) }

pub overflow_mul-result-then-a-b : goal.overflow_mul-result-then-a-b
overflow_mul-result-then-a-b c = record { fits = omega (arith, bounds c.args.s c.args.t c.args.l c.requires.0 c.requires.2 c.requires.3) }

pub overflow_add-result : goal.overflow_add-result
overflow_add-result c = record { fits = omega (arith, bounds c.args.s c.args.t c.args.l c.requires.0 c.requires.2 c.requires.3) }

pub returns-then-a-b : goal.returns-then-a-b
returns-then-a-b c =
    code_more c.args.s c.args.t c.args.l c.requires.0 c.requires.2 c.requires.3 c.args.z c.if-b-a.false c.if-a-b.true

pub overflow_mul-result-2 : goal.overflow_mul-result-2
overflow_mul-result-2 c = record { fits = omega (arith, bounds c.args.s c.args.t c.args.l c.requires.0 c.requires.2 c.requires.3) }

pub returns : goal.returns
returns c =
    code_same c.args.s c.args.t c.args.l c.requires.0 c.requires.2 c.requires.3 c.args.z c.if-b-a.false c.if-a-b.false
