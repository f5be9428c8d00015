-- a to b
use Rattle.std.specs.Prelude.{ℕ, ◌+◌, ◌-◌, ◌/◌, ◌&&◌, List, leb, length, Float}
use Rattle.number.specs.Doubles.{half, ◌⊖◌, ◌⊗◌, ◌⊘◌}
use Rattle.loops.specs.Upto.{at}
use Rattle.refusals.specs.Refusals.{unless, ◌or◌}
use Rattle.profile.specs.Profile.{profile_no}
use Rattle.byte_lists.specs.Bytes.{in_eights, doubles_of}
use Rattle.byte_lists.specs.Replied.{Replied}

-- 0.5·(a1 - a0)/(s1 - s0) of the pair at k
unfoldable pub slope : List Float → List Float → ℕ → Float
slope s a k = half ⊗ (at a (k + 1) ⊖ at a k) ⊘ (at s (k + 1) ⊖ at s k)

-- 11 to 15, 29
unfoldable pub slopes_no : List Float → List Float → ℕ → ℕ
slopes_no s a room = profile_no s a or unless (leb (length s - 1) room) 29

-- ---- on byte lists: 10, then these
abbrev pub slopes_byte_no : List ℕ → List ℕ → List ℕ → ℕ
slopes_byte_no s a out = unless (in_eights s && (in_eights a && in_eights out)) 10 or slopes_no (doubles_of s) (doubles_of a) (length out / 8)

-- one entry fewer than stations
abbrev pub ByteSlopes : List ℕ → List ℕ → List ℕ → ℕ → List ℕ → Type 0
ByteSlopes s a old = Replied (slopes_byte_no s a old) (slope (doubles_of s) (doubles_of a)) (length (doubles_of s) - 1) old
