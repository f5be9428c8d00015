-- A profile: stations s and squared speeds a, 2 to 4,096 of each.
use Rattle.std.specs.Prelude.{ℕ, ◌≤◌, ◌≡◌, ◌&&◌, List, leb, eqb, length, Float}
use Rattle.std.specs.Float.Ieee.{lt}
use Rattle.std.specs.Float.Ieee.Scale.{finite}
use Rattle.loops.specs.Entries.{every_entry, every_pair}
use Rattle.refusals.specs.Refusals.{unless, ◌or◌}
use Rattle.refusals.specs.Most.{most_stations}
use Rattle.list_tests.specs.Tests.{not_below_zero, not_both_zero}

-- 11 and 12, of n stations and m speeds
unfoldable pub lengths_no : ℕ → ℕ → ℕ
lengths_no n m = unless (leb 2 n && leb n most_stations) 11 or unless (eqb m n) 12

-- 13 to 15
unfoldable pub entries_no : List Float → List Float → ℕ
entries_no s a = unless (every_entry finite s) 13 or unless (every_entry finite a) 14 or unless (every_pair lt s) 15

-- 11 to 15: the lengths, then the entries
unfoldable pub profile_no : List Float → List Float → ℕ
profile_no s a = lengths_no (length s) (length a) or entries_no s a

-- 17 and 18
unfoldable pub speed_no : List Float → ℕ
speed_no a = unless (every_entry not_below_zero a) 17 or unless (every_pair not_both_zero a) 18

-- n stations and m speeds that pass 11 and 12
pub record Shaped (n m : ℕ) : Type 0 where
  pub low : 2 ≤ n
  pub high : n ≤ most_stations
  pub same : m ≡ n
