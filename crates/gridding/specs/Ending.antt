-- The end of a grid: what contracts of inner functions cite, and no public one.
use Rattle.std.specs.Prelude.{ℕ, ◌+◌, ◌≡◌, Bool, cond, List, Float}
use Rattle.byte_lists.specs.Bytes.{double_put}
use Rattle.following.specs.declared.pass.Counts.{Counts}

-- one entry more, which is no time
unfoldable pub entry_more : Counts → Counts
entry_more c = record { before = c.before; inside = c.inside; past = c.past; written = c.written + 1 }

-- v after the first n entries, where it is added
pub record Ended (added : Bool) (n : ℕ) (v : Float) (c : Counts) (old : List ℕ) (r : Counts) (new : List ℕ) : Type 0 where
  pub counts : r ≡ cond added (entry_more c) c
  pub left : new ≡ cond added (double_put old n v) old
