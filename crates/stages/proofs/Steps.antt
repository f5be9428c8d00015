-- Demand 3 for each step: each field is its sentence's law of recovery. Assumes nothing.
use Rattle.std.proofs.Common.{ℕ, ◌≡◌, List, Ok}
use lib.Ieee.{Float}
use Rattle.rows.specs.Rows.{rows_of}
use Rattle.limits.specs.declared.request.Station.{Station}
use Rattle.limits.specs.declared.request.Request.{Request}
use Rattle.search.specs.Answer.{certified}
use Rattle.topp2_ra.specs.Recovery.{recovered}
use Rattle.passing.specs.Demand.{Doubles}
use Rattle.passing.proofs.NoGap as gaps
use Rattle.passing.proofs.Join as joins
use Rattle.passing.proofs.RowLaw as laws
use Rattle.passing.proofs.Greatest as greatests
use Rattle.walk.specs.declared.state.Walk.{Walk}
use Rattle.walk.specs.Walking.{next_request, step_answer, stepped}
use Rattle.walk.proofs.Accepted.{accepted}
use Rattle.stages.specs.StepDemand.{StepDemanded}

module _ (w : Walk) (s : Station) (l : List Float) where
  abbrev q : Request
  q = next_request w s

  accepted_step : (x n r : Float) (t : ℕ) → (stepped w s l).answer ≡ Ok (certified x n r t) → recovered q l ≡ Ok (certified x n r t)
  unfolding stepped
  accepted_step x n r t e = accepted w s l x n r t e

  -- the answer and the walk after it depend on the rows through recovery alone
  same_step : (m : List Float) → recovered q l ≡ recovered q m → stepped w s l ≡ stepped w s m
  unfolding stepped step_answer
  same_step m e = rw e

  pub demanded : Doubles q → StepDemanded w s l
  demanded D = record {
    no_gap = gaps.no_gap q (rows_of l);
    join = joins.join q l;
    row_law = λ m L M S. same_step m (laws.row_law q l m D L M S);
    greatest = λ x n r t e. greatests.greatest q l x n r t D (accepted_step x n r t e);
  }
