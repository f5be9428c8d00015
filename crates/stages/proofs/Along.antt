-- The whole walk, stage by stage: each step is recovery's answer until the walk is full, and nothing is committed from then on. Assumes nothing.
use Rattle.std.proofs.Common.{ℕ, zero, suc, ◌+◌, ◌-◌, ◌≡◌, refl, sym, ap, ◌∙◌, List, [], ◌∷◌, Bool, true, false, cond, ltb, take, arith, Ok, Err}
use Rattle.std.proofs.lemmas.Bool.{ltb-true, ltb-false}
use lib.Ieee.{Float}
use Rattle.refusals.specs.Most.{most_stations}
use Rattle.search.specs.Answer.{Answer}
use Rattle.topp2_ra.specs.Recovery.{recovered}
use Rattle.walk.specs.declared.state.Walk.{Walk}
use Rattle.walk.specs.Walking.{next_request, advanced, step_answer, stepped}
use Rattle.stages.specs.Committed.{Stage, speed_then, committed, afterwards, stage_by_stage, room, StageByStage}

take_none : (n : ℕ) (l : List Float) → n ≡ 0 → take n l ≡ []
take_none n l e = ap (λ (n : ℕ). take n l) e

abbrev nothing : List Float
nothing = []

take_nothing : (n : ℕ) → take n nothing ≡ nothing
take_nothing zero = refl
take_nothing (suc n) = refl

abbrev on_from : Walk → List Stage → List Float
on_from w = stage_by_stage w.tolerances w.speed w.station

abbrev Holds : Walk → List Stage → Type 0
Holds w l = committed w l ≡ take (room w) (on_from w l)

-- one stage, its answer given
stage : (w : Walk) (g : Stage) (l : List Stage) → ((v : Walk) → Holds v l) → (a : Answer) (b : Bool) → ltb w.count most_stations ≡ b
    → let c = cond b a (Err 61) in
    speed_then c (committed (advanced w g.station c) l) ≡ take (room w) (afterwards a (λ x. stage_by_stage w.tolerances x g.station l) (on_from w l))
stage w g l holds (Ok c) true e =
    let later = stage_by_stage w.tolerances c.speed g.station l in
    let one_more : room w ≡ suc (most_stations - (w.count + 1)) = omega (arith, ltb-true w.count most_stations e) in
    ap (λ (l : List Float). c.speed ∷ l) (holds (advanced w g.station (Ok c))) ∙ sym (ap (λ (k : ℕ). take k (c.speed ∷ later)) one_more)
stage w g l holds (Err k) true e = holds w
stage w g l holds a false e =
    let full : room w ≡ 0 = omega (arith, ltb-false w.count most_stations e) in
    holds w ∙ take_none (room w) (on_from w l) full ∙ sym (take_none (room w) _ full)

pub along : (w : Walk) → StageByStage w
unfolding committed stage_by_stage stepped step_answer
along w [] = sym (take_nothing (room w))
along w (g ∷ l) = stage w g l (λ v. along v l) (recovered (next_request w g.station) g.rows) (ltb w.count most_stations) refl
