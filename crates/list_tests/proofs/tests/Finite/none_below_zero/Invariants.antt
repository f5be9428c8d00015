use Rattle.std.proofs.Common.{◌≡◌}
use Rattle.loops.specs.Upto.{every, at}
use Rattle.byte_lists.specs.Bytes.{doubles_of}
use Rattle.list_tests.specs.Tests.{not_below_zero}
use Rattle.list_tests.proofs.tests.Finite.none_below_zero.Given as goal

abbrev pub invariant-loop-k : goal.invariant-loop-k
invariant-loop-k l = l.all ≡ every (λ j. not_below_zero (at (doubles_of l.self.bytes.now) j)) l.k
