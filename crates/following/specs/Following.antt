-- The pass of t to s, from one time to the next.
use Rattle.std.specs.Prelude.{◌≡◌, ℕ, ◌+◌, ◌-◌, ◌*◌, ◌/◌, ◌^◌, ◌<◌, ◌≤◌, Bool, true, cond, not, ◌&&◌, List, length, ◌==◌, Float}
use Rattle.std.specs.Float.{nan}
use Rattle.std.specs.Float.Ieee.{lt, le}
use Rattle.loops.specs.Upto.{at, filled}
use Rattle.pieces.specs.Pieces.{piece_at}
use Rattle.byte_lists.specs.Bytes.{byte_of}
use Rattle.following.specs.Places.{interval_of, is_before, is_inside, is_past, station_at, counts_of}
use Rattle.following.specs.declared.interval.Cursor.{Cursor}
use Rattle.following.specs.declared.pass.Counts.{Counts}
use Rattle.following.specs.declared.pass.Passage.{Passage}

-- the station at time j of x
abbrev pub station_of : List Float → List Float → List Float → (ℕ → Float) → ℕ → Float
station_of s a t x j = station_at s a t (x j)

-- the last of the first n entries, NaN where there is none
abbrev pub last_entry : (ℕ → Float) → ℕ → Float
last_entry f n = cond (n == 0) nan (f (n - 1))

-- the stations at the times x 0 .. x (n - 1), their counts, and the last of them
pub record Passed (s a t : List Float) (x : ℕ → Float) (n : ℕ) (old : List ℕ) (r : Passage) (new : List ℕ) : Type 0 where
  pub counts : r.counts ≡ counts_of t x n n
  pub last : r.last ≡ last_entry (station_of s a t x) n
  pub left : new ≡ filled (byte_of (station_of s a t x)) (8 * n) old

-- ---- cited by inner functions alone
-- every interval before that of the cursor ends below its time; its end and its piece are those of the interval
pub record Standing (s a t : List Float) (w : Cursor) : Type 0 where
  pub within : w.interval ≤ length t - 1
  pub behind : (k : ℕ) → k < w.interval → lt (at t (k + 1)) w.time ≡ true
  pub ends : w.end ≡ at t (w.interval + 1)
  pub held : w.piece ≡ piece_at s a t w.interval

-- x is not below the cursor's time, nor past the end of its interval
abbrev pub stays : Cursor → Float → Bool
stays w x = le w.time x && not (lt w.end x)

-- the times from `start` up to r are inside
abbrev pub AllInside : List Float → (ℕ → Float) → ℕ → ℕ → Type 0
AllInside t x start r = (k : ℕ) → start ≤ k → k < r → is_inside t (x k) ≡ true

-- the cursor stands at a time that is inside, with the first `start` entries written, v the last of them, and room for n
pub record Ready (s a t : List Float) (w : Cursor) (x : ℕ → Float) (start n : ℕ) (v : Float) (out : List ℕ) : Type 0 where
  pub stands : Standing s a t w
  pub found : w.interval ≡ interval_of t w.time
  pub inside : is_inside t w.time ≡ true
  pub within : start ≤ n
  pub room : n ≤ length out / 8
  pub last : v ≡ station_of s a t x (start - 1)
  pub written : out ≡ filled (byte_of (station_of s a t x)) (8 * start) out

-- and then the times up to r are inside, with the first r entries written, v the last of them
pub record Followed (s a t : List Float) (x : ℕ → Float) (start n r : ℕ) (v : Float) (old new : List ℕ) : Type 0 where
  pub onward : start ≤ r
  pub within : r ≤ n
  pub inside : AllInside t x start r
  pub last : v ≡ station_of s a t x (r - 1)
  pub left : new ≡ filled (byte_of (station_of s a t x)) (8 * r) old

-- no count is over the entries, and these are no more than a list of bytes can hold
pub record Bounded (c : Counts) : Type 0 where
  pub few_before : c.before ≤ c.written
  pub few_inside : c.inside ≤ c.written
  pub few_past : c.past ≤ c.written
  pub few : c.written ≤ 2 ^ 61

-- one entry more, and what it adds to the times before, inside and past
unfoldable pub one_more : Counts → ℕ → ℕ → ℕ → Counts
one_more c b i p = record { before = c.before + b; inside = c.inside + i; past = c.past + p; written = c.written + 1 }

-- m entries more, each inside
unfoldable pub more_inside : Counts → ℕ → Counts
more_inside c m = record { before = c.before; inside = c.inside + m; past = c.past; written = c.written + m }

-- the entry of time x
unfoldable pub tallied : Counts → List Float → Float → Counts
tallied c t x = one_more c (cond (is_before t x) 1 0) (cond (is_inside t x) 1 0) (cond (is_past t x) 1 0)
