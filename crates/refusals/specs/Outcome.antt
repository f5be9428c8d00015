-- What a call of an operation leaves, its refusal number given: 0 where it succeeds.
use Rattle.std.specs.Prelude.{ℕ, zero, suc, ◌≡◌, List}
use Rattle.loops.specs.Upto.{filled}
use Rattle.refusals.specs.Refusals.{only_if}

-- `done` holds the values of a success, and `refused` the number of a refusal
abbrev pub answered : {A : Type 0} → A → (ℕ → A) → ℕ → A
answered done refused zero = done
answered done refused (suc number) = refused (suc number)

-- success writes the front of the output, entry 0 .. entry (n - 1), and no more; refusal writes nothing
pub record Outcome {A E : Type 0} (done : A) (refused : ℕ → A) (number : ℕ) (entry : ℕ → E) (n : ℕ) (old : List E) (r : A) (new : List E) : Type 0 where
  pub answer : r ≡ answered done refused number
  pub left : new ≡ only_if number (filled entry n old) old
