-- Whole numbers "in groups of seven bits, low group first, top bit set when another follows, shortest form only, at most ten groups and below 2^64".
use Rattle.std.specs.Prelude.{ℕ, zero, suc, ◌+◌, ◌*◌, ◌-◌, ◌%◌, ◌^◌, min, Bool, cond, not, ◌&&◌, ◌||◌, List, ltb, eqb, length, get_or, Result, Ok, Err}
use Rattle.loops.specs.Upto.{first}
use Rattle.groups.specs.declared.Number.{Number}
use Rattle.groups.specs.declared.Fault.{Fault}
use Rattle.groups.specs.declared.Fault.TheVariants.{Cut, Faulty}

abbrev pub number : ℕ → ℕ → Number
number value next = record { value = value; next = next }

-- the byte of group k, counted from 0, of a number that starts at a place
abbrev pub group_at : List ℕ → ℕ → ℕ → ℕ
group_at l at k = get_or l (at + k) 0

-- its top bit is not set: no other group follows
abbrev pub is_last : List ℕ → ℕ → ℕ → Bool
is_last l at k = ltb (group_at l at k) 128

-- what the first n groups stand for, the low one first
unfoldable pub value_of : List ℕ → ℕ → ℕ → ℕ
value_of l at zero = 0
value_of l at (suc n) = value_of l at n + 128 ^ n * (group_at l at n % 128)

-- a last group of 0 could be left out, unless it is the only one
abbrev pub shortest : ℕ → ℕ → Bool
shortest b k = not (eqb b 0) || eqb k 0

-- the number whose last group is group k, and the place after it
unfoldable pub ended : List ℕ → ℕ → ℕ → Result Number Fault
ended l at k =
    cond (ltb (value_of l at (k + 1)) (2 ^ 64) && shortest (group_at l at k) k)
    (Ok (number (value_of l at (k + 1)) (at + k + 1)))
    (Err Faulty)

-- how many groups can stand from a place on: ten, or as far as the end
abbrev pub room_at : List ℕ → ℕ → ℕ → ℕ
room_at l at end = min 10 (min end (length l) - at)

-- k is the first group that no other follows, or all the room there is
unfoldable pub ended_by : List ℕ → ℕ → ℕ → ℕ → Result Number Fault
ended_by l at room k = cond (ltb k room) (ended l at k) (cond (ltb room 10) (Err Cut) (Err Faulty))

-- the number that starts at a place and ends before `end`
unfoldable pub read_at : List ℕ → ℕ → ℕ → Result Number Fault
read_at l at end = ended_by l at (room_at l at end) (first (is_last l at) (room_at l at end))
