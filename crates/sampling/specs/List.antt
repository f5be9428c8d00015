-- t to s for a sample list
use Rattle.std.specs.Prelude.{ℕ, ◌*◌, ◌/◌, ◌&&◌, List, leb, ltb, length, Float, Result, Ok, Err}
use Rattle.std.specs.Float.Ieee.{lt}
use Rattle.std.specs.Float.Ieee.Scale.{finite}
use Rattle.loops.specs.Upto.{at}
use Rattle.refusals.specs.Most.{most_samples}
use Rattle.refusals.specs.Refusals.{unless, ◌or◌}
use Rattle.refusals.specs.Outcome.{Outcome}
use Rattle.loops.specs.Entries.{every_entry, every_pair}
use Rattle.following.specs.Places.{station_at, counts_of}
use Rattle.following.specs.declared.pass.Counts.{Counts}
use Rattle.byte_lists.specs.Bytes.{in_eights, doubles_of, byte_of}
use Rattle.sampling.specs.Samples.{timed_no}

-- 25, 28, 26, 27, 29
unfoldable pub samples_no : List Float → ℕ → ℕ
samples_no x room =
    unless (ltb 0 (length x)) 25
    or unless (leb (length x) most_samples) 28
    or unless (every_entry finite x) 26
    or unless (every_pair lt x) 27
    or unless (leb (length x) room) 29

-- 11 to 15, 17, 18, 20 to 22, 25, 28, 26, 27, 29
unfoldable pub list_no : List Float → List Float → List Float → List Float → ℕ → ℕ
list_no s a t x room = timed_no s a t or samples_no x room

-- ---- what a list is answered: its counts, and the station at each sample
abbrev pub list_counts : List Float → List Float → Counts
list_counts t x = counts_of t (at x) (length x) (length x)

abbrev pub list_station : List Float → List Float → List Float → List Float → ℕ → Float
list_station s a t x j = station_at s a t (at x j)

-- ---- on byte lists: 10, then these
abbrev pub list_byte_no : List ℕ → List ℕ → List ℕ → List ℕ → List ℕ → ℕ
list_byte_no s a t x out =
    unless ((in_eights s && (in_eights a && in_eights out)) && (in_eights t && (in_eights x && in_eights out))) 10
    or list_no (doubles_of s) (doubles_of a) (doubles_of t) (doubles_of x) (length out / 8)

-- one entry for each sample
abbrev pub ByteListed : List ℕ → List ℕ → List ℕ → List ℕ → List ℕ → Result Counts ℕ → List ℕ → Type 0
ByteListed s a t x old =
    Outcome (Ok (list_counts (doubles_of t) (doubles_of x))) Err (list_byte_no s a t x old) (byte_of (list_station (doubles_of s) (doubles_of a) (doubles_of t) (doubles_of x)))
    (8 * length (doubles_of x)) old
