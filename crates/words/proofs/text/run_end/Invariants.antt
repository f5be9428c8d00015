use Rattle.std.proofs.Common.{◌≡◌, ◌≤◌, ℕ, Bool, max, length}
use Rattle.words.specs.Spots.{run_end}
use Rattle.words.proofs.text.run_end.Given as goal

abbrev pub invariant-loop-i : goal.invariant-loop-i
invariant-loop-i g l =
    goal.F-IsAlwaysCallable g l.belongs
    × (l.i ≤ max l.fn.from (length l.text))
    × ((p : ℕ → Bool) → ((c : ℕ) (r : Bool) → goal.F-post g l.belongs c r → r ≡ p c) → run_end l.text l.i p ≡ run_end l.text l.fn.from p)
