use mathlib.Core.Path.{◌∙◌}
use native.Mathlib.Nat.{le_trans}
use Rattle.rounding.proofs.Unpack.{code_field, code_exponent}
use Rattle.roots.proofs.hypot.split.Goals as goal

pub returns : goal.returns
returns c =
    let p = c.fields.ensures in
    let q = c.fields-2.ensures in
    let a = c.args.a in
    let b = c.args.b in
    let n = c.if-b-lt4503599627370496.false in
    let m = le_trans n c.requires in (
      p.0 ∙ code_field a m,
      p.1 ∙ code_exponent a m,
      q.0 ∙ code_field b n,
      q.1 ∙ code_exponent b n,
    )
