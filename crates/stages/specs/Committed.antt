-- A whole walk: the speeds that it commits are those of recovery called stage by stage.
use Rattle.std.specs.Prelude.{ℕ, ◌-◌, ◌≡◌, Ok, Err, List, [], ◌∷◌, take, Float}
use Rattle.refusals.specs.Most.{most_stations}
use Rattle.limits.specs.declared.request.Station.{Station}
use Rattle.limits.specs.declared.request.Tolerances.{Tolerances}
use Rattle.search.specs.Answer.{Answer}
use Rattle.topp2_ra.specs.Recovery.{recovered}
use Rattle.walk.specs.declared.state.Walk.{Walk}
use Rattle.walk.specs.Walking.{stepped}

-- a stage: "the next station's interval, cap and rows"
pub record Stage : Type 0 where
  pub station : Station
  pub rows : List Float

-- the speed of an answer, and what follows it; a refusal has none
abbrev pub speed_then : Answer → List Float → List Float
speed_then (Ok c) later = c.speed ∷ later
speed_then (Err k) later = later

-- the speeds that a walk commits along the stages: those of the steps that are accepted
unfoldable pub committed : Walk → List Stage → List Float
committed w [] = []
committed w (g ∷ l) = let r = stepped w g.station g.rows in speed_then r.answer (committed r.walk l)

-- what follows an answer: after a speed what follows from there, after a refusal what follows from where one was
abbrev pub afterwards : Answer → (Float → List Float) → List Float → List Float
afterwards (Ok c) from same = c.speed ∷ from c.speed
afterwards (Err k) from same = same

-- recovery called stage by stage, each time with the speed that was committed last and the station that has it
unfoldable pub stage_by_stage : Tolerances → Float → Station → List Stage → List Float
stage_by_stage t a s [] = []
stage_by_stage t a s (g ∷ l) =
    afterwards (recovered (record { a_prev = a; prev = s; curr = g.station; tolerances = t }) g.rows)
    (λ x. stage_by_stage t x g.station l) (stage_by_stage t a s l)

-- how many stations a walk still has room for
abbrev pub room : Walk → ℕ
room w = most_stations - w.count

-- the walk commits the first of these, as many as it has room for
abbrev pub StageByStage : Walk → Type 0
StageByStage w = (l : List Stage) → committed w l ≡ take (room w) (stage_by_stage w.tolerances w.speed w.station l)
