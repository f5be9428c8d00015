use Rattle.std.proofs.Common.{length, ◌-◌, ◌≡◌}
use Rattle.case_lines.proofs.lists.apply.Given as goal

abbrev pub invariant-loop-i : goal.invariant-loop-i
invariant-loop-i l = length l.b ≡ length l.initial.b

abbrev pub decreases-loop-i : goal.decreases-loop-i
decreases-loop-i l = length l.fn.line - l.i
