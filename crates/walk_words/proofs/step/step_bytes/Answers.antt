use Rattle.std.proofs.lemmas.Bool.{eq-eqb, ne_eqb}
use Rattle.walk_words.specs.Words.{stepped_bytes}
use Rattle.walk_words.proofs.step.step_bytes.Goals as goal

pub returns-then-rows-eq0 : goal.returns-then-rows-eq0
unfolding stepped_bytes
returns-then-rows-eq0 c = simp (eq-eqb _ _ c.if-rows-eq0.true, ← c.step.ensures)

pub returns : goal.returns
unfolding stepped_bytes
returns c = simp (ne_eqb _ _ c.if-rows-eq0.false)
