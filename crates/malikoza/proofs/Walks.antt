-- What the entries of the walk owe, from what they leave. Assumes nothing.
use Prim.Native.Nat.{ℕ}
use mathlib.Core.Path.{◌≡◌, refl, sym, ap, subst, ◌∙◌}
use mathlib.Core.Bool.{Bool, true, false, cond}
use mathlib.Core.List.{List}
use native.Mathlib.Omega.{arith}
use lib.Dec.{ltb}
use lib.ListN.{get_or}
use lib.Ieee.{binary64, of_bits}
use Rattle.refusals.specs.Most.{most_stations}
use Rattle.limits.specs.declared.request.Station.{Station}
use Rattle.limits.specs.declared.request.Request.{Request}
use Rattle.search.specs.Answer.{Answer}
use Rattle.std.specs.Prelude.{Err}
use Rattle.topp2_ra.specs.Recovery.{recovered}
use Rattle.passing.specs.Demand.{Sound}
use Rattle.byte_lists.specs.Bytes.{in_eights, doubles_of}
use Rattle.requests.specs.FromPatterns.{station_of, tolerances_of}
use Rattle.replies.specs.AnswerTold.{recovered_bytes, number_of, Told}
use Rattle.walk.specs.Walking.{started, next_request, step_answer, stepped}
use Rattle.walk.specs.declared.state.Walk.{Walk}
use Rattle.stages.proofs.Steps.{demanded}
use Rattle.stages.proofs.Along.{along}
use Rattle.walk_words.specs.Words.{walk_of, words_of, stepped_bytes, words_left}
use Rattle.walk_words.proofs.ReadBack.{words_doubles, start_reads, step_reads}
use Rattle.malikoza.specs.Steps.{Starting, Stepping}
use Rattle.malikoza.proofs.Reporting.{promised}

pub starting : (feas abs rel speed lower upper cap : ℕ) {words : List ℕ}
    → let t = tolerances_of feas abs rel in let x = of_bits binary64 speed in let s = station_of lower upper cap in
    words ≡ words_of (started t x s) → Starting t x s words
starting feas abs rel speed lower upper cap e = record {
  left = e;
  state = ap walk_of e ∙ start_reads feas abs rel speed lower upper cap;
  stage_by_stage = along _;
}

module _ (w : Walk) (s : Station) (rows : List ℕ) where
  abbrev q : Request
  q = next_request w s

  -- a walk that is not full answers as recovery does, from bytes too
  as_recovered : ltb w.count most_stations ≡ true → (stepped_bytes w s rows).answer ≡ recovered_bytes q rows
  unfolding stepped_bytes stepped step_answer recovered_bytes
  as_recovered e = go (in_eights rows)
    where
      go : (b : Bool) → (cond b (stepped w s (doubles_of rows)) (record { walk = w; answer = Err 10 })).answer ≡ cond b (recovered q (doubles_of rows)) (Err 10)
      go true = ap (λ (b : Bool). cond b (recovered q (doubles_of rows)) (Err 61)) e
      go false = refl

  -- a full one refuses, with 61 or before that with 10
  full_refuses : ltb w.count most_stations ≡ false → number_of (stepped_bytes w s rows).answer ≡ 0 → ⊥
  unfolding stepped_bytes stepped step_answer
  full_refuses e = go (in_eights rows)
    where
      go : (b : Bool) → number_of (cond b (stepped w s (doubles_of rows)) (record { walk = w; answer = Err 10 })).answer ≡ 0 → ⊥
      go true z = omega (arith, sym (ap (λ (b : Bool). number_of (cond b (recovered q (doubles_of rows)) (Err 61))) e) ∙ z)
      go false z = omega (arith, z)

module _ (old : List ℕ) (lower upper cap : ℕ) (rows : List ℕ) where
  abbrev w : Walk
  w = walk_of old

  abbrev station : Station
  station = station_of lower upper cap

  module _ {number s₀ s n₀ n r₀ r t₀ t : ℕ} (told : Told (stepped_bytes w station rows).answer number s₀ s n₀ n r₀ r t₀ t) where
    sound : Sound (next_request w station) (doubles_of rows) number s t
    sound = go (ltb w.count most_stations) refl
      where
        go : (b : Bool) → ltb w.count most_stations ≡ b → Sound (next_request w station) (doubles_of rows) number s t
        go true e =
            (promised (get_or old 3 0) w.station lower upper cap w.tolerances rows
            (subst (λ (a : Answer). Told a number s₀ s n₀ n r₀ r t₀ t) (as_recovered w station rows e) told)).sound
        go false e =
            let refused : number ≡ 0 → ⊥ = λ z. full_refuses w station rows e (sym told.number_is ∙ z) in
            record { passing = λ z. absurd (refused z); tried_in = λ z. absurd (refused z) }

    pub stepping : {new : List ℕ} → new ≡ words_left (stepped_bytes w station rows) old → Stepping old new station rows number s₀ s n₀ n r₀ r t₀ t
    stepping e = record {
      told = told;
      left = e;
      state = ap walk_of e ∙ step_reads old lower upper cap rows;
      demanded = demanded w station (doubles_of rows) (words_doubles w lower upper cap);
      sound = sound;
    }
