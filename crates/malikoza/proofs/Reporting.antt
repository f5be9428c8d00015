-- What `malikoza_recover` tells is a report of recovery's answer, whose request is made of doubles. Assumes nothing.
use Prim.Native.Nat.{ℕ, zero, suc}
use mathlib.Core.Path.{◌≡◌, refl, sym, ap, ap₂, ◌∙◌}
use mathlib.Core.Bool.{Bool, true, false, cond}
use mathlib.Core.List.{List}
use native.Mathlib.Omega.{arith}
use lib.Ieee.{Float, binary64, of_bits}
use lib.Ieee.Bits.{of_bits-fits, of_bits-to_bits}
use Rattle.limits.specs.declared.request.Station.{Station}
use Rattle.limits.specs.declared.request.Tolerances.{Tolerances}
use Rattle.limits.specs.declared.request.Request.{Request}
use Rattle.search.specs.Answer.{Answer, certified}
use Rattle.std.specs.Prelude.{Ok, Err}
use Rattle.topp2_ra.specs.Recovery.{recovered}
use Rattle.passing.specs.Demand.{Doubles}
use Rattle.passing.proofs.Reports.{Reported}
use Rattle.passing.proofs.Soundness.{refusal_numbered, speed_double, sound}
use Rattle.passing.proofs.Whole.{demanded}
use Rattle.byte_lists.specs.Bytes.{in_eights, doubles_of}
use Rattle.requests.specs.FromPatterns.{station_of, request_of}
use Rattle.replies.specs.AnswerTold.{recovered_bytes, Told}
use Rattle.malikoza.specs.Recover.{Recovering}

patterns_are_doubles : (a : ℕ) (prev : Station) (lower upper cap : ℕ) (t : Tolerances) → Doubles (request_of a prev (station_of lower upper cap) t)
patterns_are_doubles a prev lower upper cap t = record { lower_fits = of_bits-fits binary64 lower; upper_fits = of_bits-fits binary64 upper; cap_fits = of_bits-fits binary64 cap }

module _ (q : Request) (rows : List ℕ) {number s₀ s n₀ n r₀ r t₀ t : ℕ} (D : Doubles q) (told : Told (recovered_bytes q rows) number s₀ s n₀ n r₀ r t₀ t) where
  reported : Reported q (doubles_of rows) number s t
  unfolding recovered_bytes
  reported = go (in_eights rows) (recovered q (doubles_of rows)) refl told
    where
      go : (b : Bool) (a : Answer) → recovered q (doubles_of rows) ≡ a → Told (cond b a (Err 10)) number s₀ s n₀ n r₀ r t₀ t → Reported q (doubles_of rows) number s t
      go false a e w z = absurd (omega (arith, w.number_is))
      go true (Ok c) e w z =
          let f = ap (of_bits binary64) w.speed_is ∙ of_bits-to_bits binary64 c.speed (speed_double q (doubles_of rows) c.speed c.worst_normalized c.worst_raw c.tried D e) in
          (c.worst_normalized, c.worst_raw, e ∙ sym (ap₂ (λ (y : Float) (k : ℕ). Ok (certified y c.worst_normalized c.worst_raw k)) f w.tried_is))
      go true (Err zero) e w z = absurd (refusal_numbered q (doubles_of rows) e)
      go true (Err (suc k)) e w z = absurd (omega (arith, w.number_is))

  recovering : Recovering q rows number s₀ s n₀ n r₀ r t₀ t
  recovering = record {
    told = told;
    demanded = demanded q (doubles_of rows) number s t D reported;
    sound = sound q (doubles_of rows) number s t reported;
  }

-- what the entry owes, from what it tells
pub promised : (a : ℕ) (prev : Station) (lower upper cap : ℕ) (tolerances : Tolerances) (rows : List ℕ) {number s₀ s n₀ n r₀ r t₀ t : ℕ}
    → let q = request_of a prev (station_of lower upper cap) tolerances in
    Told (recovered_bytes q rows) number s₀ s n₀ n r₀ r t₀ t → Recovering q rows number s₀ s n₀ n r₀ r t₀ t
promised a prev lower upper cap tolerances rows =
    recovering (request_of a prev (station_of lower upper cap) tolerances) rows (patterns_are_doubles a prev lower upper cap tolerances)
