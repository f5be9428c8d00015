-- 02: "Demand 3 holds for each step." Here it is of a step's answer, over the walk's state.
use Rattle.std.specs.Prelude.{ℕ, ◌%◌, ◌≡◌, List, ◌++◌, ◌&&◌, T, Ok, length, Float}
use Rattle.std.specs.Float.Ieee.{le}
use Rattle.rows.specs.Rows.{rows_of, whole_rows}
use Rattle.limits.specs.Bounds.{upper}
use Rattle.limits.specs.Projection.{projected}
use Rattle.limits.specs.declared.request.Station.{Station}
use Rattle.certificates.specs.Certificate.{passes}
use Rattle.search.specs.Answer.{certified}
use Rattle.passing.specs.Demand.{SameRows, smallest, Greatest}
use Rattle.walk.specs.declared.state.Walk.{Walk}
use Rattle.walk.specs.Walking.{next_request, stepped}

-- the speed x passes at the station that the walk comes to
abbrev pub PassesAt : Walk → Station → List Float → Float → Type 0
PassesAt w s l x = T (passes (next_request w s) (rows_of l) x)

-- a field to a sentence
pub record StepDemanded (w : Walk) (s : Station) (l : List Float) : Type 0 where
  -- "Passing doubles have no gap"
  pub no_gap : (x y z : Float) → T (le x y) → T (le y z) → PassesAt w s l x → PassesAt w s l z → PassesAt w s l y
  -- "two lists joined pass exactly what both pass"
  pub join : (m : List Float) (x : Float) → length l % 3 ≡ 0
      → passes (next_request w s) (rows_of (l ++ m)) x ≡ (passes (next_request w s) (rows_of l) x && passes (next_request w s) (rows_of m) x)
  -- "If two lists of at most 256 whole rows hold the same rows, in any order or number": the same answer, and the same walk after it
  pub row_law : (m : List Float) → T (whole_rows l) → T (whole_rows m) → SameRows l m → stepped w s l ≡ stepped w s m
  -- "If its speed isn't the cap and the projected upper end is at least 2^-1021, that speed is the greatest passing double not above that end"
  pub greatest : (x n r : Float) (t : ℕ) → (stepped w s l).answer ≡ Ok (certified x n r t)
      → (x ≡ upper (next_request w s) → ⊥) → T (le smallest (projected (next_request w s) (rows_of l)).high) → Greatest (next_request w s) (rows_of l) x
