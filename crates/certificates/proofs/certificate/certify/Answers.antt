use Rattle.std.proofs.Common.{sym, ◌∙◌}
use Rattle.rows.specs.Rows.{rows_of}
use Rattle.byte_lists.specs.Bytes.{doubles_of}
use Rattle.certificates.proofs.Certificates.{inside_bounds, certificate_counted}
use Rattle.certificates.proofs.certificate.certify.Goals as goal

pub returns-then-is_inside : goal.returns-then-is_inside
returns-then-is_inside c =
    let a = c.args in
    let s = c.span in
    let b = sym (c.is_inside.ensures ∙ inside_bounds a.q s.result a.x s.ensures) ∙ c.if-is_inside.true in
    simp (← certificate_counted a.q (rows_of (doubles_of a.rows.now)) a.x, b, ← c.certify_rows.ensures)

pub returns-else-is_inside : goal.returns-else-is_inside
returns-else-is_inside c =
    let a = c.args in
    let s = c.span in
    let b = sym (c.is_inside.ensures ∙ inside_bounds a.q s.result a.x s.ensures) ∙ c.if-is_inside.false in
    simp (← certificate_counted a.q (rows_of (doubles_of a.rows.now)) a.x, b)
