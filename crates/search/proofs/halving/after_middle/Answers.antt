use Rattle.std.proofs.Common.{sym, ap, ◌∙◌, Ok}
use Rattle.number.proofs.Order.{fails}
use Rattle.certificates.proofs.Verdicts.{verdict}
use Rattle.tables.specs.ByBlocks.{certificate_by}
use Rattle.tables.proofs.Tables.{verdict_on}
use Rattle.search.specs.declared.answer.Certified.{Certified}
use Rattle.search.proofs.Turns.{end_certified}
use Rattle.search.proofs.halving.after_middle.Goals as goal

pub returns-in-Some : goal.returns-in-Some
returns-in-Some c =
    let a = c.args in
    let h = c.halve_all-s in
    ap (λ (r : Certified). Ok r) c.with.ensures
    ∙ end_certified (certificate_by a.t) h.result a.start _ h.ensures.0 (sym c.certify.ensures ∙ c.in-Some.is)

pub returns-in-None : goal.returns-in-None
returns-in-None c =
    let t = c.args.t in
    let h = c.halve_all-s in
    let same = verdict_on t.tol h.result.passing t.bounds t.table.now in
    let failed = sym c.certify.ensures ∙ c.in-None.is in
    absurd (fails (sym h.ensures.1 ∙ sym same ∙ ap verdict failed) tt)
