use mathlib.Core.Path.{◌∙◌}
use native.Mathlib.Omega.{arith}
use Rattle.rounding.proofs.Unpack.{zeros_in, code_lifted, code_lift, code_field, code_exponent}
use Rattle.rounding.proofs.packing.unpacked.Goals as goal

pub overflow_cast-lift : goal.overflow_cast-lift
overflow_cast-lift c = record { fits = omega (arith, zeros_in c.args.b c.if-b-lt4503599627370496.true) }

pub overflow_sub-lift : goal.overflow_sub-lift
overflow_sub-lift c = (zeros_in c.args.b c.if-b-lt4503599627370496.true).0

pub overflow_shl-result : goal.overflow_shl-result
overflow_shl-result c = omega (arith, zeros_in c.args.b c.if-b-lt4503599627370496.true)

pub overflow_sub-result : goal.overflow_sub-result
overflow_sub-result c = omega (arith, zeros_in c.args.b c.if-b-lt4503599627370496.true)

pub returns-then-b-lt4503599627370496 : goal.returns-then-b-lt4503599627370496
returns-then-b-lt4503599627370496 c = (code_lifted c.args.b c.if-b-lt4503599627370496.true, code_lift c.args.b c.if-b-lt4503599627370496.true)

pub returns : goal.returns
returns c =
    let b = c.args.b in
    let n = c.if-b-lt4503599627370496.false in
    let f = c.fields.ensures in
    (f.0 ∙ code_field b n, f.1 ∙ code_exponent b n)
