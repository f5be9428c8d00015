use Rattle.std.proofs.Common.{◌≡◌, ◌+◌, ◌-◌, ◌≤◌, Bool, length}
use Rattle.std.specs.Float.Ieee.{Float}
use Rattle.loops.specs.Upto.{every, at}
use Rattle.byte_lists.specs.Bytes.{doubles_of}
use Rattle.list_tests.proofs.tests.Finite.every_pair.Given as goal

abbrev pub invariant-loop-k : goal.invariant-loop-k
invariant-loop-k g l =
    let x = doubles_of l.self.bytes.now in record {
      within : l.k - 1 ≤ length x - 1;
      told : (p : Float → Float → Bool) → ((x y : Float) (r : Bool) → goal.F-post g l.test x y r → r ≡ p x y)
          → l.all ≡ every (λ j. p (at x j) (at x (j + 1))) (l.k - 1);
    }
