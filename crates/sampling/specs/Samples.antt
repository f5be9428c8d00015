-- What t to s refuses for a list and for an even grid
use Rattle.std.specs.Prelude.{ℕ, List, eqb, length, Float}
use Rattle.std.specs.Float.Ieee.{lt}
use Rattle.std.specs.Float.Ieee.Scale.{finite}
use Rattle.loops.specs.Entries.{every_entry, every_pair}
use Rattle.refusals.specs.Refusals.{unless, ◌or◌}
use Rattle.profile.specs.Profile.{profile_no, speed_no}

-- 11 to 15, 17, 18, 20 to 22
unfoldable pub timed_no : List Float → List Float → List Float → ℕ
timed_no s a t =
    profile_no s a
    or speed_no a
    or unless (eqb (length t) (length s)) 20
    or unless (every_entry finite t) 21
    or unless (every_pair lt t) 22
