use mathlib.Core.Path.{sym, ap, ◌∙◌}
use lib.Ieee.{binary64, of_bits, div}
use Rattle.byte_lists.proofs.Fronts.{double_within, double_past}
use Rattle.byte_lists.proofs.doubles.double_at.Goals as goal

pub returns-then-k-b : goal.returns-then-k-b
returns-then-k-b c = c.double_of.ensures ∙ ap (of_bits binary64) c.word_at.ensures ∙ sym (double_within _ _ c.if-k-b.true)

pub returns-else-k-b : goal.returns-else-k-b
unfolding of_bits div
returns-else-k-b c = sym (double_past _ _ c.if-k-b.false)
