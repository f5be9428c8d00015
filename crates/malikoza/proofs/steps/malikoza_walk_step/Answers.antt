use Rattle.malikoza.proofs.Walks.{stepping}
use Rattle.malikoza.proofs.steps.malikoza_walk_step.Goals as goal

pub returns : goal.returns
returns c =
    let a = c.args in
    stepping a.walk.now a.lower a.upper a.cap a.rows.now
    (simp (← c.step_words-stepped.ensures) c.tell.ensures)
    (simp (← c.step_words-stepped.ensures) c.leave.ensures)
