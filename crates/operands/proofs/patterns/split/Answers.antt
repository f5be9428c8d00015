use Rattle.std.proofs.Common.{sym, ◌∙◌}
use Rattle.operands.specs.SignAndSize.{is_normal}
use Rattle.operands.proofs.Operands.{all_true, code_fields}
use Rattle.operands.proofs.patterns.split.Goals as goal

pub returns-then-all_normal : goal.returns-then-all_normal
returns-then-all_normal c =
    let x = c.fields in
    let y = c.fields-then-all_normal in
    let z = c.fields-then-all_normal-2 in
    let n = all_true (is_normal c.args.a) (is_normal c.args.b) (is_normal c.args.c) (sym c.all_normal.ensures ∙ c.if-all_normal.true) in (
      code_fields c.args.a c.ranges.a.fits n.0 x.result.m x.result.k x.ensures,
      code_fields c.args.b c.ranges.b.fits n.1 y.result.m y.result.k y.ensures,
      code_fields c.args.c c.ranges.c.fits n.2 z.result.m z.result.k z.ensures,
    )
