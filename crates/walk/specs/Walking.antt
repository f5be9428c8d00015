-- The forward walk. 02: "it starts from the tolerances, a start speed and the first station's interval and cap, and each step takes the next station's
-- interval, cap and rows and answers as recovery does with the last committed speed as a_prev."
use Rattle.std.specs.Prelude.{◌+◌, cond, Ok, Err, List, ltb, Float}
use Rattle.refusals.specs.Most.{most_stations}
use Rattle.refusals.specs.Refusal.{numbered}
use Rattle.limits.specs.declared.request.Station.{Station}
use Rattle.limits.specs.declared.request.Tolerances.{Tolerances}
use Rattle.limits.specs.declared.request.Request.{Request}
use Rattle.search.specs.Answer.{Answer}
use Rattle.topp2_ra.specs.Recovery.{recovered}
use Rattle.walk.specs.declared.state.Walk.{Walk}
use Rattle.walk.specs.declared.step.Stepped.{Stepped}

-- "It counts stations, the start as 1"
abbrev pub started : Tolerances → Float → Station → Walk
started tolerances speed station = record { tolerances = tolerances; speed = speed; station = station; count = 1 }

-- the request that the walk's state and the next station make
abbrev pub next_request : Walk → Station → Request
next_request w s = record { a_prev = w.speed; prev = w.station; curr = s; tolerances = w.tolerances }

-- "4,096 at most"; "61, walk full, before 1"
unfoldable pub step_answer : Walk → Station → List Float → Answer
step_answer w s l = cond (ltb w.count most_stations) (recovered (next_request w s) l) (Err 61)

-- "a refused step returns the state unchanged"
abbrev pub advanced : Walk → Station → Answer → Walk
advanced w s (Ok c) = record { tolerances = w.tolerances; speed = c.speed; station = s; count = w.count + 1 }
advanced w s (Err k) = w

-- the answer of a step, and the walk after it
pub record Step : Type 0 where
  pub walk : Walk
  pub answer : Answer

unfoldable pub stepped : Walk → Station → List Float → Step
stepped w s l = let a = step_answer w s l in record { walk = advanced w s a; answer = a }

-- what the code gives back, with the number in place of the refusal
abbrev pub numbered_step : Stepped → Step
numbered_step r = record { walk = r.walk; answer = numbered r.answer }
