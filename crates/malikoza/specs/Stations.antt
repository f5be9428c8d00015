-- What the t to s entries leave: the reply to the answer, and the output.
use Rattle.std.specs.Prelude.{ℕ, ◌*◌, ◌≡◌, Bool, not, List, eqb, length, Ok, Err, Float}
use Rattle.loops.specs.Upto.{filled}
use Rattle.refusals.specs.Refusals.{only_if}
use Rattle.refusals.specs.Outcome.{answered}
use Rattle.following.specs.declared.pass.Counts.{Counts}
use Rattle.gridding.specs.Grid.{grid_entry, grid_entries, grid_counts, grid_byte_no}
use Rattle.byte_lists.specs.Bytes.{doubles_of, byte_of}
use Rattle.sampling.specs.List.{list_counts, list_station, list_byte_no}
use Rattle.replies.specs.CountsTold.{Counted}

-- what a call leaves: its number and counts, and the bytes of the first n entries at the front of the output
pub record Tallied (done : Counts) (refusal : ℕ) (entry : ℕ → Float) (n : ℕ) (old : List ℕ)
    (number before₀ before inside₀ inside past₀ past written₀ written : ℕ) (new : List ℕ) : Type 0 where
  pub counted : Counted (answered (Ok done) Err refusal) number before₀ before inside₀ inside past₀ past written₀ written
  pub left : new ≡ only_if refusal (filled (byte_of entry) (8 * n) old) old

-- of a sample list
abbrev pub ListTallied : List ℕ → List ℕ → List ℕ → List ℕ → List ℕ → ℕ → ℕ → ℕ → ℕ → ℕ → ℕ → ℕ → ℕ → ℕ → List ℕ → Type 0
ListTallied s a t x old =
    Tallied (list_counts (doubles_of t) (doubles_of x)) (list_byte_no s a t x old) (list_station (doubles_of s) (doubles_of a) (doubles_of t) (doubles_of x))
    (length (doubles_of x)) old

-- of an even grid
abbrev pub GridTallied : List ℕ → List ℕ → List ℕ → Float → Float → Bool → List ℕ → ℕ → ℕ → ℕ → ℕ → ℕ → ℕ → ℕ → ℕ → ℕ → List ℕ → Type 0
GridTallied s a t t0 dt final old =
    Tallied (grid_counts (doubles_of s) (doubles_of a) (doubles_of t) t0 dt final) (grid_byte_no s a t t0 dt final old)
    (grid_entry (doubles_of s) (doubles_of a) (doubles_of t) t0 dt) (grid_entries (doubles_of s) (doubles_of a) (doubles_of t) t0 dt final) old

-- "with_final: 0 is no, anything else is yes"
abbrev pub yes : ℕ → Bool
yes n = not (eqb n 0)
