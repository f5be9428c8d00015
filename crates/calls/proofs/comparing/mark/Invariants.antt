use Rattle.std.proofs.Common.{◌≡◌}
use Rattle.loops.specs.Upto.{filled}
use Rattle.calls.specs.Marks.{mark_at}
use Rattle.calls.proofs.comparing.mark.Given as goal

abbrev pub invariant-loop-i : goal.invariant-loop-i
invariant-loop-i l = l.out ≡ filled mark_at l.i l.initial.out
