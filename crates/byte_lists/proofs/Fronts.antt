-- The doubles of a list of bytes, one by one.
use Prim.Native.Nat.{ℕ, ◌/◌, ◌≤◌, ◌<◌}
use mathlib.Core.Path.{◌≡◌, sym, ap, ◌∙◌}
use mathlib.Core.List.{List}
use native.Mathlib.Omega.{arith}
use lib.ListN.{length, get_or-eq_default}
use lib.Ieee.{nan, binary64, of_bits}
use borrow.Author.Tests.{lt-ltb}
use Rattle.loops.specs.Upto.{at}
use Rattle.loops.proofs.Filling.{length_table, table_at}
use Rattle.byte_lists.specs.Bytes.{double_at, pattern_at, doubles_of}

pub length_doubles : (l : List ℕ) → length (doubles_of l) ≡ length l / 8
unfolding doubles_of
length_doubles l = length_table (double_at l) (length l / 8)

-- the double at a place, and NaN past the last
pub double_within : (b : List ℕ) (k : ℕ) → k < length b / 8 → at (doubles_of b) k ≡ double_at b k
unfolding doubles_of
double_within b k h = table_at (double_at b) (length b / 8) k h

pub double_past : (b : List ℕ) (k : ℕ) → length b / 8 ≤ k → at (doubles_of b) k ≡ nan
double_past b k h = get_or-eq_default (doubles_of b) nan (omega (arith, length_doubles b))

-- the pattern at a place reads as the double there
pub pattern_within : (b : List ℕ) (k w : ℕ) → k < length b / 8 → w ≡ pattern_at b k → of_bits binary64 w ≡ at (doubles_of b) k
unfolding pattern_at
pattern_within b k w h e = rw (lt-ltb k (length b / 8) h) at (ap (of_bits binary64) e) ∙ sym (double_within b k h)
