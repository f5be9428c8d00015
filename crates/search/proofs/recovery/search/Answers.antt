use Rattle.std.proofs.lemmas.Result.{err_from_is_err_and}
use Rattle.refusals.proofs.Refused.{let_through}
use Rattle.refusals.specs.declared.refusal.Refusal.TheVariants.{ProjectionEmpty}
use Rattle.rows.proofs.Readings.{stopped}
use Rattle.search.specs.Search.{searched}
use Rattle.search.proofs.recovery.search.Goals as goal

pub returns-in_err-unless : goal.returns-in_err-unless
unfolding searched
returns-in_err-unless c =
    let p = err_from_is_err_and c.from_residual.result c.from_residual.ensures.1 in
    rw (p.1, p.2) (stopped c.in_err-unless.field-0.0 _ 8 c.in_err-unless.ensures (λ h. simp (← c.in_order.ensures, h)))

pub returns : goal.returns
unfolding searched
returns c =
    let h = let_through ProjectionEmpty _ (tt {0}) c.in_ok-unless.ensures in
    simp (← c.in_order.ensures, h, ← c.try_neighbours.ensures.0) c.after_neighbours.ensures
