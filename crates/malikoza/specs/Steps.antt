-- What the entries of the walk leave, and what is promised of that.
use Rattle.std.specs.Prelude.{ℕ, ◌≡◌, List, Float}
use Rattle.limits.specs.declared.request.Station.{Station}
use Rattle.limits.specs.declared.request.Tolerances.{Tolerances}
use Rattle.passing.specs.Demand.{Sound}
use Rattle.byte_lists.specs.Bytes.{doubles_of}
use Rattle.replies.specs.AnswerTold.{Told}
use Rattle.walk.specs.Walking.{started, next_request}
use Rattle.stages.specs.StepDemand.{StepDemanded}
use Rattle.stages.specs.Committed.{StageByStage}
use Rattle.walk_words.specs.Words.{walk_of, words_of, stepped_bytes, words_left}

-- the words of the start, which read as it; and what a walk from there commits
pub record Starting (tolerances : Tolerances) (speed : Float) (station : Station) (words : List ℕ) : Type 0 where
  pub left : words ≡ words_of (started tolerances speed station)
  pub state : walk_of words ≡ started tolerances speed station
  pub stage_by_stage : StageByStage (started tolerances speed station)

-- the reply to the step's answer; the words after it, which read as the walk after it
pub record Stepping (old new : List ℕ) (s : Station) (rows : List ℕ) (number speed₀ speed normalized₀ normalized raw₀ raw tried₀ tried : ℕ) : Type 0 where
  pub told : Told (stepped_bytes (walk_of old) s rows).answer number speed₀ speed normalized₀ normalized raw₀ raw tried₀ tried
  pub left : new ≡ words_left (stepped_bytes (walk_of old) s rows) old
  pub state : walk_of new ≡ (stepped_bytes (walk_of old) s rows).walk
  pub demanded : StepDemanded (walk_of old) s (doubles_of rows)
  pub sound : Sound (next_request (walk_of old) s) (doubles_of rows) number speed tried
