use Rattle.std.proofs.Common.{sym, ap, ◌∙◌}
use Rattle.std.proofs.lemmas.Result.{err_from_is_err_and}
use lib.Ieee.{Float}
use Rattle.number.specs.Doubles.{◌⊗◌}
use Rattle.refusals.proofs.Refused.{let_through}
use Rattle.refusals.specs.declared.refusal.Refusal.TheVariants.{RowNumber, RowImpossible}
use Rattle.rows.specs.Rows.{row}
use Rattle.rows.proofs.Readings.{stopped, numbers_unfit, unmeetable_read, silent_read, scale_unfit, block_read}
use Rattle.rows.proofs.reading.read.Goals as goal

pub returns-in_err-unless : goal.returns-in_err-unless
returns-in_err-unless c =
    let a = c.args in
    let p = err_from_is_err_and c.from_residual.result c.from_residual.ensures.1 in
    rw (p.1, p.2)
    (stopped c.in_err-unless.field-0.0 _ 5 c.in_err-unless.ensures
    (λ h. numbers_unfit a.tol a.a (row a.c a.p a.r) _ c.hypot-norm.ensures.is (sym c.both_finite.ensures ∙ h)))

pub returns-in_err-unless-2 : goal.returns-in_err-unless-2
returns-in_err-unless-2 c =
    let a = c.args in
    let p = err_from_is_err_and c.from_residual-in_err-unless-2.result c.from_residual-in_err-unless-2.ensures.1 in
    let finite = sym c.both_finite.ensures ∙ let_through RowNumber _ (tt {0}) c.in_ok-unless.ensures in
    rw (p.1, p.2)
    (stopped c.in_err-unless-2.field-0.0 _ 6 c.in_err-unless-2.ensures
    (unmeetable_read a.tol a.a (row a.c a.p a.r) _ c.hypot-norm.ensures.is finite c.if-norm.true))

pub returns-then-norm : goal.returns-then-norm
returns-then-norm c =
    let a = c.args in
    let finite = sym c.both_finite.ensures ∙ let_through RowNumber _ (tt {0}) c.in_ok-unless.ensures in
    silent_read a.tol a.a (row a.c a.p a.r) _ c.hypot-norm.ensures.is finite c.if-norm.true (let_through RowImpossible _ (tt {0}) c.in_ok-unless-2.ensures)

pub returns-in_err-unless-3 : goal.returns-in_err-unless-3
returns-in_err-unless-3 c =
    let a = c.args in
    let p = err_from_is_err_and c.from_residual-in_err-unless-3.result c.from_residual-in_err-unless-3.ensures.1 in
    let finite = sym c.both_finite.ensures ∙ let_through RowNumber _ (tt {0}) c.in_ok-unless.ensures in
    rw (p.1, p.2)
    (stopped c.in_err-unless-3.field-0.0 _ 5 c.in_err-unless-3.ensures
    (λ h. scale_unfit a.tol a.a (row a.c a.p a.r) _ c.hypot-norm.ensures.is finite
    _ (ap (λ (y : Float). a.tol ⊗ y) c.scale.ensures) c.if-norm.false (sym c.both_finite-2.ensures ∙ h)))

pub returns : goal.returns
returns c =
    let a = c.args in
    let finite = sym c.both_finite.ensures ∙ let_through RowNumber _ (tt {0}) c.in_ok-unless.ensures in
    block_read a.tol a.a (row a.c a.p a.r) _ c.hypot-norm.ensures.is finite
    _ (ap (λ (y : Float). a.tol ⊗ y) c.scale.ensures) c.if-norm.false (sym c.both_finite-2.ensures ∙ let_through RowNumber _ (tt {0}) c.in_ok-unless-3.ensures)
