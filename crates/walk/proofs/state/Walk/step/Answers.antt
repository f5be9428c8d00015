use Rattle.std.proofs.lemmas.Bool.{lt-ltb, le-ltb}
use Rattle.walk.specs.Walking.{stepped, step_answer}
use Rattle.walk.proofs.state.Walk.step.Goals as goal

pub returns-then-self : goal.returns-then-self
unfolding stepped step_answer
returns-then-self c =
    simp (
      lt-ltb _ _ c.if-self.true,
      ← c.next_request.ensures,
      ← c.recover_forward_intersection-answer.ensures,
      ← c.advance-walk.ensures,
    )

pub returns : goal.returns
unfolding stepped step_answer
returns c = simp (le-ltb _ _ c.if-self.false)
