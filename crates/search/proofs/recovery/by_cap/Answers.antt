use Rattle.std.proofs.Common.{sym, ap, ◌∙◌, Ok}
use lib.Ieee.{Float}
use Rattle.rows.specs.Rows.{rows_of}
use Rattle.byte_lists.specs.Bytes.{doubles_of}
use Rattle.certificates.specs.Certificate.{certificate}
use Rattle.search.specs.Answer.{certified}
use Rattle.search.specs.declared.answer.Certified.{Certified}
use Rattle.search.proofs.Answering.{by_cap, by_table_lem}
use Rattle.search.proofs.recovery.by_cap.Goals as goal

pub returns-in-Some : goal.returns-in-Some
returns-in-Some c =
    let a = c.args in
    let l = doubles_of a.rows.now in
    let cap = c.upper-cap.ensures in
    let f = c.in-Some.f in
    let e = sym (c.certify.ensures ∙ ap (certificate a.q (rows_of l)) cap) ∙ c.in-Some.is in
    ap (λ (r : Certified). Ok r) (c.with.ensures ∙ ap (λ (x : Float). certified x f.worst_normalized f.worst_raw 1) cap) ∙ by_cap a.q l e

pub returns-in-None : goal.returns-in-None
returns-in-None c =
    let a = c.args in
    let l = doubles_of a.rows.now in
    let e = sym (c.certify.ensures ∙ ap (certificate a.q (rows_of l)) c.upper-cap.ensures) ∙ c.in-None.is in
    c.by_table.ensures ∙ by_table_lem a.q l e
