use Rattle.std.proofs.lemmas.Bool.{not-true, not-false}
use Rattle.std.proofs.lemmas.Result.{err_from_is_err_and}
use Rattle.refusals.proofs.Refused.{let_through}
use Rattle.refusals.specs.declared.refusal.Refusal.TheVariants.{ProjectionNotFinite, ProjectionEmpty}
use Rattle.rows.proofs.Readings.{stopped}
use Rattle.search.specs.OnTable.{after_gathered}
use Rattle.search.proofs.recovery.after_gathered.Goals as goal

pub returns-in_err-unless : goal.returns-in_err-unless
unfolding after_gathered
returns-in_err-unless c =
    let p = err_from_is_err_and c.from_residual.result c.from_residual.ensures.1 in
    rw (p.1, p.2) (stopped c.in_err-unless.field-0.0 _ 7 c.in_err-unless.ensures (λ h. rw (not-false c.args.g.unreachable h)))

pub returns-in_err-unless-2 : goal.returns-in_err-unless-2
unfolding after_gathered
returns-in_err-unless-2 c =
    let p = err_from_is_err_and c.from_residual-in_err-unless-2.result c.from_residual-in_err-unless-2.ensures.1 in
    let reached = not-true c.args.g.unreachable (let_through ProjectionNotFinite _ (tt {0}) c.in_ok-unless.ensures) in
    rw (p.1, p.2) (stopped c.in_err-unless-2.field-0.0 _ 8 c.in_err-unless-2.ensures (λ h. rw (reached, not-false c.args.g.flat h)))

pub returns : goal.returns
unfolding after_gathered
returns c =
    let reached = not-true c.args.g.unreachable (let_through ProjectionNotFinite _ (tt {0}) c.in_ok-unless.ensures) in
    let sloped = not-true c.args.g.flat (let_through ProjectionEmpty _ (tt {0}) c.in_ok-unless-2.ensures) in
    rw (reached, sloped) c.search.ensures
