-- s to t
use Rattle.std.specs.Prelude.{ℕ, zero, suc, ◌+◌, ◌/◌, List, Bool, ◌&&◌, leb, length, Float}
use Rattle.std.specs.Float.{binary64}
use Rattle.std.specs.Float.Ieee.Scale.{finite}
use Rattle.number.specs.Doubles.{two, ◌⊕◌, ◌⊖◌, ◌⊗◌, ◌⊘◌}
use Rattle.roots.specs.Root.{sqrt_of}
use Rattle.loops.specs.Upto.{every, at}
use Rattle.refusals.specs.Refusals.{unless, ◌or◌}
use Rattle.profile.specs.Profile.{profile_no, speed_no}
use Rattle.byte_lists.specs.Bytes.{in_eights, doubles_of}
use Rattle.byte_lists.specs.Replied.{Replied}

-- 2·(s1 - s0)/(root a0 + root a1), the roots given
unfoldable pub leg : Float → Float → Float → Float → Float
leg s0 s1 root0 root1 = two ⊗ (s1 ⊖ s0) ⊘ (root0 ⊕ root1)

-- of the pair at k
unfoldable pub leg_time : List Float → List Float → ℕ → Float
leg_time s a k = leg (at s k) (at s (k + 1)) (sqrt_of binary64 (at a k)) (sqrt_of binary64 (at a (k + 1)))

-- the time at station k: starting at t0, each pair before k added, from the left
unfoldable pub time_at : List Float → List Float → Float → ℕ → Float
time_at s a t0 zero = t0
time_at s a t0 (suc k) = time_at s a t0 k ⊕ leg_time s a k

-- every computed time is finite
unfoldable pub times_finite : List Float → List Float → Float → Bool
times_finite s a t0 = every (λ k. finite (time_at s a t0 k)) (length s)

-- 11 to 18, 29
unfoldable pub start_no : List Float → List Float → Float → ℕ → ℕ
start_no s a t0 room = profile_no s a or unless (finite t0) 16 or speed_no a or unless (leb (length s) room) 29

-- 11 to 18, 29, 19
unfoldable pub times_no : List Float → List Float → Float → ℕ → ℕ
times_no s a t0 room = start_no s a t0 room or unless (times_finite s a t0) 19

-- ---- on byte lists: 10, then these
abbrev pub times_byte_no : List ℕ → List ℕ → Float → List ℕ → ℕ
times_byte_no s a t0 out = unless (in_eights s && (in_eights a && in_eights out)) 10 or times_no (doubles_of s) (doubles_of a) t0 (length out / 8)

-- one entry for each station
abbrev pub ByteTimes : List ℕ → List ℕ → Float → List ℕ → ℕ → List ℕ → Type 0
ByteTimes s a t0 old = Replied (times_byte_no s a t0 old) (time_at (doubles_of s) (doubles_of a) t0) (length (doubles_of s)) old

-- ---- cited by inner functions alone
-- what is left to refuse: 19
abbrev pub Settled : List ℕ → List ℕ → Float → List ℕ → ℕ → List ℕ → Type 0
Settled s a t0 old =
    Replied (unless (times_finite (doubles_of s) (doubles_of a) t0) 19) (time_at (doubles_of s) (doubles_of a) t0) (length (doubles_of s)) old
