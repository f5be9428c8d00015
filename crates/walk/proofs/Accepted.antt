-- A step that is accepted has recovery's answer. Assumes nothing.
use Rattle.std.proofs.Common.{ℕ, ◌≡◌, List, Bool, true, false, cond, ltb, Ok, Err}
use lib.Ieee.{Float}
use Rattle.refusals.specs.Most.{most_stations}
use Rattle.limits.specs.declared.request.Station.{Station}
use Rattle.search.specs.Answer.{certified}
use Rattle.topp2_ra.specs.Recovery.{recovered}
use Rattle.walk.specs.declared.state.Walk.{Walk}
use Rattle.walk.specs.Walking.{next_request, step_answer}

pub accepted : (w : Walk) (s : Station) (l : List Float) (x n r : Float) (t : ℕ)
    → step_answer w s l ≡ Ok (certified x n r t) → recovered (next_request w s) l ≡ Ok (certified x n r t)
unfolding step_answer
accepted w s l x n r t = go (ltb w.count most_stations)
  where
    go : (b : Bool) → cond b (recovered (next_request w s) l) (Err 61) ≡ Ok (certified x n r t) → recovered (next_request w s) l ≡ Ok (certified x n r t)
    go true e = e
    go false e = cc
