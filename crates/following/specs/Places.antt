-- t to s: the station at one time, the times of an even grid, and the counts
use Rattle.std.specs.Prelude.{ℕ, ◌+◌, ◌-◌, Bool, cond, not, ◌&&◌, List, length, pos, nat_lt, Float}
use Rattle.std.specs.Float.{nan, binary64}
use Rattle.std.specs.Float.Ieee.{lt, of_int}
use Rattle.number.specs.Doubles.{◌⊕◌, ◌⊗◌}
use Rattle.loops.specs.Upto.{count, first, at}
use Rattle.pieces.specs.Pieces.{station_in}
use Rattle.following.specs.declared.pass.Counts.{Counts}

-- the first interval whose end time is not below x; the number of intervals where there is none
unfoldable pub interval_of : List Float → Float → ℕ
interval_of t x = first (λ k. not (lt (at t (k + 1)) x)) (length t - 1)

-- a time below the first, within an interval, past the last
unfoldable pub is_before : List Float → Float → Bool
is_before t x = lt x (at t 0)

unfoldable pub is_inside : List Float → Float → Bool
is_inside t x = not (is_before t x) && nat_lt (interval_of t x) (length t - 1)

unfoldable pub is_past : List Float → Float → Bool
is_past t x = not (is_before t x) && not (is_inside t x)

-- the station at time x, or NaN
unfoldable pub station_at : List Float → List Float → List Float → Float → Float
station_at s a t x = cond (is_inside t x) (station_in s a t (interval_of t x) x) nan

-- t0 + i·dt
unfoldable pub grid_time : Float → Float → ℕ → Float
grid_time t0 dt i = t0 ⊕ of_int binary64 (pos i) ⊗ dt

-- the counts of the times x 0 .. x (n - 1), with `entries` written
unfoldable pub counts_of : List Float → (ℕ → Float) → ℕ → ℕ → Counts
counts_of t x n entries = record {
  before = count (λ j. is_before t (x j)) n;
  inside = count (λ j. is_inside t (x j)) n;
  past = count (λ j. is_past t (x j)) n;
  written = entries;
}
