use Rattle.std.proofs.Common.{◌≤◌, ◌≡◌, eqb}
use Rattle.std.specs.Float.Ieee.Scale.{finite}
use Rattle.loops.specs.Upto.{every, at}
use Rattle.byte_lists.specs.Bytes.{doubles_of}
use Rattle.list_tests.proofs.tests.all_finite.Given as goal

abbrev pub invariant-loop-k : goal.invariant-loop-k
invariant-loop-k l = (l.count ≤ l.k) × (eqb l.count 0 ≡ every (λ j. finite (at (doubles_of l.b) j)) l.k)
