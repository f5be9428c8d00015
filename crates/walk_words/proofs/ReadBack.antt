-- A state read back from its words is the same state; so what a start or a step leaves reads as the walk that it made. Assumes nothing.
use Rattle.std.proofs.Common.{ℕ, ◌+◌, ◌≡◌, refl, Bool, true, false, cond, Result, Ok, Err, is_ok, List, T, get_or}
use Rattle.refusals.specs.Refusal.{numbered_by}
use lib.Ieee.{Float, binary64, fits, of_bits, to_bits}
use lib.Ieee.Bits.{of_bits-fits, of_bits-to_bits}
use Rattle.limits.specs.declared.request.Station.{Station}
use Rattle.search.specs.Answer.{Answer}
use Rattle.search.specs.declared.answer.Certified.{Certified}
use Rattle.passing.specs.Demand.{Doubles}
use Rattle.passing.proofs.Soundness.{speed_double}
use Rattle.byte_lists.specs.Bytes.{in_eights, doubles_of}
use Rattle.requests.specs.FromPatterns.{station_of, tolerances_of}
use Rattle.walk.specs.Walking.{started, next_request, advanced, step_answer, stepped}
use Rattle.walk.specs.declared.state.Walk.{Walk}
use Rattle.walk.proofs.Accepted.{accepted}
use Rattle.walk_words.specs.Words.{walk_of, words_of, stepped_bytes, words_after, words_left}

-- numbers that come from patterns are doubles
pub words_doubles : (w : Walk) (lower upper cap : ℕ) → Doubles (next_request w (station_of lower upper cap))
words_doubles w lower upper cap = record { lower_fits = of_bits-fits binary64 lower; upper_fits = of_bits-fits binary64 upper; cap_fits = of_bits-fits binary64 cap }

-- a pattern read, written and read again
twice : (n : ℕ) → of_bits binary64 (to_bits binary64 (of_bits binary64 n)) ≡ of_bits binary64 n
twice n = of_bits-to_bits binary64 (of_bits binary64 n) (of_bits-fits binary64 n)

-- a state whose speed is a double, the rest of it from patterns
pub read_back : (feas abs rel : ℕ) (x : Float) (lower upper cap count : ℕ) → T (fits binary64 x)
    → let w : Walk = record { tolerances = tolerances_of feas abs rel; speed = x; station = station_of lower upper cap; count = count } in
    walk_of (words_of w) ≡ w
read_back feas abs rel x lower upper cap count h = rw (twice feas, twice abs, twice rel, of_bits-to_bits binary64 x h, twice lower, twice upper, twice cap)

pub start_reads : (feas abs rel speed lower upper cap : ℕ)
    → let w = started (tolerances_of feas abs rel) (of_bits binary64 speed) (station_of lower upper cap) in walk_of (words_of w) ≡ w
start_reads feas abs rel speed lower upper cap = read_back feas abs rel (of_bits binary64 speed) lower upper cap 1 (of_bits-fits binary64 speed)

module _ (old : List ℕ) (lower upper cap : ℕ) where
  abbrev w : Walk
  w = walk_of old

  abbrev s : Station
  s = station_of lower upper cap

  after_reads : (l : List Float) (a : Answer) → step_answer w s l ≡ a → walk_of (words_after a (advanced w s a) old) ≡ advanced w s a
  after_reads l (Ok c) e =
      read_back (get_or old 0 0) (get_or old 1 0) (get_or old 2 0) c.speed lower upper cap (get_or old 7 0 + 1)
      (speed_double (next_request w s) l c.speed c.worst_normalized c.worst_raw c.tried (words_doubles w lower upper cap)
      (accepted w s l c.speed c.worst_normalized c.worst_raw c.tried e))
  after_reads l (Err k) e = refl

  pub step_reads : (rows : List ℕ) → walk_of (words_left (stepped_bytes w s rows) old) ≡ (stepped_bytes w s rows).walk
  unfolding stepped_bytes stepped
  step_reads rows = go (in_eights rows)
    where
      go : (b : Bool) → let r = cond b (stepped w s (doubles_of rows)) (record { walk = w; answer = Err 10 }) in walk_of (words_left r old) ≡ r.walk
      go true = after_reads (doubles_of rows) (step_answer w s (doubles_of rows)) refl
      go false = refl

-- what a refusal leaves of the words
pub left_alone : {E : Type 0} (number : E → ℕ) (a : Result Certified E) (w : Walk) (old : List ℕ) → is_ok a ≡ false → old ≡ words_after (numbered_by number a) w old
left_alone number (Ok c) w old h = cc
left_alone number (Err e) w old h = refl
