use Rattle.std.proofs.Common.{sym, ap, ◌∙◌, Some}
use Rattle.certificates.specs.declared.certificate.Figures.{Figures}
use Rattle.certificates.proofs.RowLoop.{refused_ends, silent_stays, says_counts, broken_ends, fits_counts}
use Rattle.certificates.proofs.certificate.count_row.Goals as goal

pub returns-in_err-ok : goal.returns-in_err-ok
returns-in_err-ok c =
    let a = c.args in
    c.from_residual.ensures ∙ refused_ends a.tol a.x a.worst a.r (sym c.ok.ensures.value ∙ c.in_err-ok.was)

pub returns-in_err-judge-in-Some : goal.returns-in_err-judge-in-Some
returns-in_err-judge-in-Some c =
    let a = c.args in
    c.from_residual-in_err-judge-in-Some.ensures
    ∙ broken_ends a.tol a.x a.worst _ (sym c.judge.ensures ∙ c.in_err-judge-in-Some.was)
    ∙ says_counts a.tol a.x a.worst a.r _ _ (sym c.ok.ensures.value ∙ c.in_ok-ok.was) c.in-Some.is

pub returns-in-None : goal.returns-in-None
returns-in-None c =
    let a = c.args in
    silent_stays a.tol a.x a.worst a.r _ (sym c.ok.ensures.value ∙ c.in_ok-ok.was) c.in-None.is

pub returns-in_ok-judge-in-Some : goal.returns-in_ok-judge-in-Some
returns-in_ok-judge-in-Some c =
    let a = c.args in
    ap (λ (f : Figures). Some f) c.with.ensures
    ∙ fits_counts a.tol a.x a.worst _ _ (sym c.judge.ensures ∙ c.in_ok-judge-in-Some.was)
    ∙ says_counts a.tol a.x a.worst a.r _ _ (sym c.ok.ensures.value ∙ c.in_ok-ok.was) c.in-Some.is
