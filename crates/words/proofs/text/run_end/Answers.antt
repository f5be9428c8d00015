use Rattle.std.proofs.Common.{◌∙◌, sym, arith, ◌≡◌}
use Rattle.words.proofs.Stepping.{run_turn, run_stops, run_past}
use Rattle.words.proofs.text.run_end.Goals as goal

pub returns-then-not-belongs-clause-run : goal.returns-then-not-belongs-clause-run
returns-then-not-belongs-clause-run g c = λ p e.
    let l = c.loop-i in
    sym (run_stops _ l.i p (omega arith) (sym (e _ _ c.belongs.ensures) ∙ c.if-not-belongs.true)) ∙ l.invariant.2 p e

pub loop-i-preserved : goal.loop-i-preserved
loop-i-preserved g c =
    let l = c.loop-i in
    (l.invariant.0, omega arith, λ p e. run_turn _ l.i p (omega arith) (sym (e _ _ c.belongs.ensures) ∙ c.if-not-belongs.false) ∙ l.invariant.2 p e)

pub returns-clause-run : goal.returns-clause-run
returns-clause-run g c = λ p e.
    let l = c.loop-i in
    let m : c.max.result ≡ l.i = omega (arith, c.max.ensures) in
    m ∙ sym (run_past _ l.i p (omega arith)) ∙ l.invariant.2 p e
