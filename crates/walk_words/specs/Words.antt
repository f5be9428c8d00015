-- A walk as a C caller has it: "the patterns of feas_tol, a_cmp_abs_tol, a_cmp_rel_tol, the last committed speed, the last station's lower, upper and cap, then
-- the count of stations"; and what a step leaves of these eight words.
use Rattle.std.specs.Prelude.{ℕ, cond, Ok, Err, List, [], ◌∷◌, get_or}
use Rattle.std.specs.Float.{binary64}
use Rattle.std.specs.Float.Ieee.{of_bits, to_bits}
use Rattle.limits.specs.declared.request.Station.{Station}
use Rattle.search.specs.Answer.{Answer}
use Rattle.byte_lists.specs.Bytes.{in_eights, doubles_of}
use Rattle.requests.specs.FromPatterns.{station_of, tolerances_of}
use Rattle.walk.specs.Walking.{Step, stepped}
use Rattle.walk.specs.declared.state.Walk.{Walk}

-- the state that eight words stand for
abbrev pub walk_of : List ℕ → Walk
walk_of l = record {
  tolerances = tolerances_of (get_or l 0 0) (get_or l 1 0) (get_or l 2 0);
  speed = of_bits binary64 (get_or l 3 0);
  station = station_of (get_or l 4 0) (get_or l 5 0) (get_or l 6 0);
  count = get_or l 7 0;
}

-- the words of a state
abbrev pub words_of : Walk → List ℕ
words_of w =
    to_bits binary64 w.tolerances.feas
    ∷ to_bits binary64 w.tolerances.abs
    ∷ to_bits binary64 w.tolerances.rel
    ∷ to_bits binary64 w.speed
    ∷ to_bits binary64 w.station.interval.lower
    ∷ to_bits binary64 w.station.interval.upper
    ∷ to_bits binary64 w.station.cap
    ∷ w.count
    ∷ []

-- 10: "a byte list of a length not divisible by eight; before all others"
unfoldable pub stepped_bytes : Walk → Station → List ℕ → Step
stepped_bytes w s rows = cond (in_eights rows) (stepped w s (doubles_of rows)) (record { walk = w; answer = Err 10 })

-- an accepted step writes the new state; a refusal leaves what there was, bit for bit
abbrev pub words_after : Answer → Walk → List ℕ → List ℕ
words_after (Ok c) w old = words_of w
words_after (Err k) w old = old

abbrev pub words_left : Step → List ℕ → List ℕ
words_left r old = words_after r.answer r.walk old
