use Rattle.std.proofs.Common.{◌≡◌, ℕ, ◌+◌, ◌<◌, true}
use Rattle.std.specs.Float.Ieee.{lt}
use Rattle.loops.specs.Upto.{at}
use Rattle.byte_lists.specs.Bytes.{doubles_of}
use Rattle.following.proofs.interval.interval_from.Given as goal

abbrev pub invariant-loop-k : goal.invariant-loop-k
invariant-loop-k l = (j : ℕ) → j + 1 < l.k → lt (at (doubles_of l.t) (j + 1)) l.x ≡ true
