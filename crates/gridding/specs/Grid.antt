-- t to s on an even grid
use Rattle.std.specs.Prelude.{ℕ, ◌+◌, ◌*◌, ◌-◌, ◌/◌, List, Bool, not, cond, ◌&&◌, leb, ltb, length, Float, Result, Ok, Err}
use Rattle.std.specs.Float.Ieee.{le}
use Rattle.std.specs.Float.Ieee.Scale.{finite}
use Rattle.number.specs.Doubles.{zero, ◌⊖◌, ◌⊘◌}
use Rattle.number.specs.Leaves.{whole_part}
use Rattle.loops.specs.Upto.{at}
use Rattle.refusals.specs.Most.{most_samples}
use Rattle.refusals.specs.Refusals.{unless, ◌or◌}
use Rattle.refusals.specs.Outcome.{Outcome}
use Rattle.following.specs.Places.{station_at, grid_time, counts_of}
use Rattle.following.specs.Following.{last_entry}
use Rattle.following.specs.declared.pass.Counts.{Counts}
use Rattle.byte_lists.specs.Bytes.{in_eights, doubles_of, byte_of}
use Rattle.sampling.specs.Samples.{timed_no}
use Rattle.strap_end.specs.Final.{final_added}

unfoldable pub last_of : List Float → Float
last_of x = at x (length x - 1)

-- the whole part of (last time - t0)/dt
unfoldable pub grid_size : List Float → Float → Float → ℕ
grid_size t t0 dt = whole_part ((last_of t ⊖ t0) ⊘ dt)

-- 16, 23, 24, 28
unfoldable pub even_no : List Float → Float → Float → ℕ
even_no t t0 dt =
    unless (finite t0) 16
    or unless (finite dt) 23
    or unless (not (le dt zero)) 24
    or unless (leb (grid_size t t0 dt) most_samples) 28

-- 11 to 15, 17, 18, 20 to 22, 16, 23, 24, 28, 29: one entry more is needed where the final is asked for, added or not
unfoldable pub grid_no : List Float → List Float → List Float → Float → Float → Bool → ℕ → ℕ
grid_no s a t t0 dt final room =
    timed_no s a t
    or even_no t t0 dt
    or unless (leb (grid_size t t0 dt + cond final 1 0) room) 29

unfoldable pub grid_station : List Float → List Float → List Float → Float → Float → ℕ → Float
grid_station s a t t0 dt i = station_at s a t (grid_time t0 dt i)

-- the stations, and the last one after them
unfoldable pub grid_entry : List Float → List Float → List Float → Float → Float → ℕ → Float
grid_entry s a t t0 dt i = cond (ltb i (grid_size t t0 dt)) (grid_station s a t t0 dt i) (last_of s)

-- how many are written: one more where the final is added
unfoldable pub grid_entries : List Float → List Float → List Float → Float → Float → Bool → ℕ
grid_entries s a t t0 dt final =
    let n = grid_size t t0 dt in
    n + cond (final_added final t0 (last_of t) (last_entry (grid_station s a t t0 dt) n) (last_of s)) 1 0

abbrev pub grid_counts : List Float → List Float → List Float → Float → Float → Bool → Counts
grid_counts s a t t0 dt final = counts_of t (grid_time t0 dt) (grid_size t t0 dt) (grid_entries s a t t0 dt final)

-- ---- on byte lists: 10, then these
abbrev pub grid_byte_no : List ℕ → List ℕ → List ℕ → Float → Float → Bool → List ℕ → ℕ
grid_byte_no s a t t0 dt final out =
    unless ((in_eights s && (in_eights a && in_eights out)) && in_eights t) 10
    or grid_no (doubles_of s) (doubles_of a) (doubles_of t) t0 dt final (length out / 8)

-- the entries, as bytes
abbrev pub ByteGridded : List ℕ → List ℕ → List ℕ → Float → Float → Bool → List ℕ → Result Counts ℕ → List ℕ → Type 0
ByteGridded s a t t0 dt final old =
    Outcome (Ok (grid_counts (doubles_of s) (doubles_of a) (doubles_of t) t0 dt final)) Err (grid_byte_no s a t t0 dt final old)
    (byte_of (grid_entry (doubles_of s) (doubles_of a) (doubles_of t) t0 dt)) (8 * grid_entries (doubles_of s) (doubles_of a) (doubles_of t) t0 dt final) old
