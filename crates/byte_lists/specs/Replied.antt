-- What a call on byte lists answers and leaves, its refusal number given: 0 where it succeeds.
use Rattle.std.specs.Prelude.{ℕ, ◌*◌, ◌≡◌, List, Float}
use Rattle.loops.specs.Upto.{filled}
use Rattle.refusals.specs.Refusals.{only_if}
use Rattle.byte_lists.specs.Bytes.{byte_of}

-- success writes the bytes of entry 0 .. entry (n - 1) at the front of the output and no more, refusal writes nothing
pub record Replied (number : ℕ) (entry : ℕ → Float) (n : ℕ) (old : List ℕ) (r : ℕ) (new : List ℕ) : Type 0 where
  pub number_is : r ≡ number
  pub left : new ≡ only_if number (filled (byte_of entry) (8 * n) old) old
