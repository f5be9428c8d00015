-- What holds of every even grid that is not refused.
use Rattle.std.specs.Prelude.{ℕ, ◌<◌, ◌≡◌, Bool, false, not, cond, ◌&&◌, ◌||◌, List, T, eqb, Float}
use Rattle.std.specs.Float.{binary64}
use Rattle.std.specs.Float.Ieee.{lt, le, is_nan, fits}
use Rattle.following.specs.Places.{is_past, grid_time}
use Rattle.following.specs.Following.{last_entry}
use Rattle.strap_end.specs.Final.{final_added}
use Rattle.gridding.specs.Grid.{last_of, grid_size, grid_no, grid_station}

-- no time of it is past the last time; that time and the step are doubles, as every entry of a list of bytes and every parameter of code is
abbrev pub NonePast : Type 0
NonePast = (s a t : List Float) (t0 dt : Float) (asked : Bool) (room : ℕ) → grid_no s a t t0 dt asked room ≡ 0
    → T (fits binary64 (last_of t)) → T (fits binary64 dt) → (i : ℕ) → i < grid_size t t0 dt → is_past t (grid_time t0 dt i) ≡ false

-- 01's rule: "if no sample was made, the last station is added when t0 ≤ last time; else it is added when the last entry is less than the last station"
abbrev pub final_by01 : ℕ → Float → Float → Float → Float → Bool
final_by01 n t0 time entry station = cond (eqb n 0) (le t0 time) (lt entry station)

-- by 02's rule a final that is asked for is added where it was by 01's, and after a sample that is NaN
abbrev pub AddedAsBy01 : Bool → ℕ → Float → Float → Float → Float → Type 0
AddedAsBy01 asked n t0 time entry station =
    final_added asked t0 time entry station ≡ asked && (final_by01 n t0 time entry station || (not (eqb n 0) && is_nan entry))

abbrev pub OnlyAfterNaN : Type 0
OnlyAfterNaN = (s a t : List Float) (t0 dt : Float) (asked : Bool) (room : ℕ) → grid_no s a t t0 dt asked room ≡ 0
    → let n = grid_size t t0 dt in
    AddedAsBy01 asked n t0 (last_of t) (last_entry (grid_station s a t t0 dt) n) (last_of s)
