use Rattle.std.proofs.Common.{sym, ap, ◌∙◌, ◌+◌, arith}
use Rattle.std.proofs.lemmas.Result.{err_from_is_err_and}
use lib.Ieee.{Float}
use Rattle.refusals.proofs.Refused.{let_through}
use Rattle.refusals.specs.declared.refusal.Refusal.TheVariants.{MiddleFails}
use Rattle.rows.proofs.Readings.{stopped}
use Rattle.tables.specs.ByBlocks.{certificate_by, passes_by}
use Rattle.tables.proofs.Tables.{verdict_on}
use Rattle.search.specs.Search.{middle, after_middle}
use Rattle.search.specs.OnTable.{ends_on}
use Rattle.search.proofs.Turns.{middle_passed, middle_failed}
use Rattle.search.proofs.halving.try_middle.Goals as goal

pub returns-in_err-unless : goal.returns-in_err-unless
returns-in_err-unless c =
    let t = c.args.t in
    let s = c.args.s in
    let x = middle s.low s.high in
    let p = err_from_is_err_and c.from_residual.result c.from_residual.ensures.1 in
    rw (p.1, p.2)
    (stopped c.in_err-unless.field-0.0 _ 9 c.in_err-unless.ensures
    (λ h. middle_failed (certificate_by t) s c.args.tried
    (verdict_on t.tol x t.bounds t.table.now ∙ sym (ap (passes_by t) c.middle-m.ensures) ∙ sym c.passes.ensures ∙ h)))

pub after_middle-requires : goal.after_middle-requires
after_middle-requires c = (omega (arith, c.requires), sym c.passes.ensures ∙ let_through MiddleFails _ (tt {0}) c.in_ok-unless.ensures)

pub returns : goal.returns
returns c =
    let t = c.args.t in
    let s = c.args.s in
    let x = middle s.low s.high in
    let cert = certificate_by t in
    let passed =
    verdict_on t.tol x t.bounds t.table.now
    ∙ sym (ap (passes_by t) c.middle-m.ensures)
    ∙ sym c.passes.ensures
    ∙ let_through MiddleFails _ (tt {0}) c.in_ok-unless.ensures in
    c.after_middle.ensures
    ∙ ap (λ (y : Float). after_middle cert (ends_on cert (record { passing = y; rejected = s.high; tried = c.args.tried + 1 }))) c.middle-m.ensures
    ∙ middle_passed cert s c.args.tried passed
