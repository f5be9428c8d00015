-- The rule for the final station of an even grid, of the last time, the last entry and the last station
use Rattle.std.specs.Prelude.{Bool, not, ◌&&◌, Float}
use Rattle.std.specs.Float.Ieee.{le}

-- with the final asked for and t0 at or before the last time, the last station is added unless there is a last entry that is at or past it;
-- a NaN entry counts as not there
unfoldable pub final_added : Bool → Float → Float → Float → Float → Bool
final_added asked t0 time entry station = asked && (le t0 time && not (le station entry))
