use Rattle.std.proofs.Common.{refl, ap, ◌∙◌, Bool}
use Rattle.std.proofs.lemmas.Result.{err_from_is_err_and}
use Rattle.refusals.specs.Refusals.{unless}
use Rattle.refusals.proofs.Refused.{number_some}
use Rattle.refusals.proofs.Outcomes.{or_stop, or_next}
use Rattle.topp2_ra.specs.Recovery.{request_no}
use Rattle.topp2_ra.proofs.Refusing.{whole_bytes}
use Rattle.topp2_ra.proofs.inputs.refusal.Goals as goal

pub returns-in_err-unless : goal.returns-in_err-unless
unfolding request_no
returns-in_err-unless c =
    let p = err_from_is_err_and c.from_residual.result c.from_residual.ensures.1 in
    let e = c.in_err-unless.field-0.0 in
    let whole = c.whole_rows.ensures ∙ whole_bytes c.args.rows.now in
    rw (p.1, p.2) (or_stop _ _ _ (c.in_err-unless.ensures ∙ ap (λ (b : Bool). unless b 1) whole) (number_some e))

pub returns-in_err-unless-2 : goal.returns-in_err-unless-2
unfolding request_no
returns-in_err-unless-2 c =
    let p = err_from_is_err_and c.from_residual-in_err-unless-2.result c.from_residual-in_err-unless-2.ensures.1 in
    let e = c.in_err-unless-2.field-0.0 in
    let whole = c.whole_rows.ensures ∙ whole_bytes c.args.rows.now in
    rw (p.1, p.2)
    (or_next _ _ _ _ (c.in_ok-unless.ensures ∙ ap (λ (b : Bool). unless b 1) whole) refl
    (or_stop _ _ _ (c.in_err-unless-2.ensures ∙ ap (λ (b : Bool). unless b 2) c.inputs_good.ensures) (number_some e)))

pub returns-in_err-unless-3 : goal.returns-in_err-unless-3
unfolding request_no
returns-in_err-unless-3 c =
    let p = err_from_is_err_and c.from_residual-in_err-unless-3.result c.from_residual-in_err-unless-3.ensures.1 in
    let e = c.in_err-unless-3.field-0.0 in
    let whole = c.whole_rows.ensures ∙ whole_bytes c.args.rows.now in
    rw (p.1, p.2)
    (or_next _ _ _ _ (c.in_ok-unless.ensures ∙ ap (λ (b : Bool). unless b 1) whole) refl
    (or_next _ _ _ _ (c.in_ok-unless-2.ensures ∙ ap (λ (b : Bool). unless b 2) c.inputs_good.ensures) refl
    (or_stop _ _ _ (c.in_err-unless-3.ensures ∙ ap (λ (b : Bool). unless b 3) c.previous_good.ensures) (number_some e))))

pub returns : goal.returns
unfolding request_no
returns c =
    let whole = c.whole_rows.ensures ∙ whole_bytes c.args.rows.now in
    or_next _ _ _ _ (c.in_ok-unless.ensures ∙ ap (λ (b : Bool). unless b 1) whole) refl
    (or_next _ _ _ _ (c.in_ok-unless-2.ensures ∙ ap (λ (b : Bool). unless b 2) c.inputs_good.ensures) refl
    (or_next _ _ _ _ (c.in_ok-unless-3.ensures ∙ ap (λ (b : Bool). unless b 3) c.previous_good.ensures) refl
    (c.unless-4.ensures ∙ ap (λ (b : Bool). unless b 4) c.current_good.ensures)))
