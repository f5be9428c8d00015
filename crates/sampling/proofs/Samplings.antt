-- What passing the checks says: those of both modes, and those of a list.
use Rattle.std.proofs.Common.{ℕ, ◌*◌, ◌/◌, ◌≤◌, min, ◌≡◌, sym, ap, ◌∙◌, true, cond, List, arith, leb-true, eqb-true, eqb, leb, ltb, length, Float}
use Rattle.std.specs.Float.Ieee.{lt}
use native.Mathlib.Nat.{min-eq_left}
use Rattle.std.specs.Float.Ieee.Scale.{finite}
use Rattle.refusals.specs.Most.{most_samples}
use Rattle.refusals.specs.Refusals.{unless, ◌or◌}
use Rattle.refusals.proofs.Chains.{or_none, unless_none, or_assoc, or_cond}
use Rattle.loops.specs.Entries.{every_entry, every_pair}
use Rattle.sampling.specs.Samples.{timed_no}
use Rattle.loops.specs.Upto.{filled, at}
use Rattle.byte_lists.specs.Bytes.{doubles_of, byte_of}
use Rattle.byte_lists.proofs.Fronts.{length_doubles}
use Rattle.following.specs.Following.{Passed}
use Rattle.following.specs.declared.pass.Passage.{Passage}
use Rattle.sampling.specs.List.{samples_no, list_no, list_counts, list_station}
use Rattle.profile.specs.Profile.{profile_no, speed_no}
use Rattle.profile.proofs.Profiles.{shaped}

-- what a profile with its times has that passes its checks
pub timed : (s a t : List Float) → timed_no s a t ≡ 0 → (length a ≡ length s) × (length t ≡ length s) × (2 ≤ length s) × (every_entry finite t ≡ true)
unfolding timed_no
timed s a t h =
    let falls = unless (every_pair lt t) 22 in
    let later = unless (every_entry finite t) 21 or falls in
    let same = eqb (length t) (length s) in
    let p = or_none (profile_no s a) (speed_no a or unless same 20 or later) h in
    let q = or_none (speed_no a) (unless same 20 or later) p.1 in
    let u = or_none (unless same 20) later q.1 in
    let v = or_none (unless (every_entry finite t) 21) falls u.1 in
    let w = shaped s a p.0 in
    (w.same, eqb-true _ _ (unless_none same 20 (omega arith) u.0), w.low, unless_none (every_entry finite t) 21 (omega arith) v.0)

sampled : (x : List Float) (room : ℕ) → samples_no x room ≡ 0 → length x ≤ room
unfolding samples_no
sampled x room h =
    let few = leb (length x) most_samples in
    let short = unless (leb (length x) room) 29 in
    let falls = unless (every_pair lt x) 27 or short in
    let entries = unless (every_entry finite x) 26 or falls in
    let p = or_none (unless (ltb 0 (length x)) 25) (unless few 28 or entries) h in
    let q = or_none (unless few 28) entries p.1 in
    let u = or_none (unless (every_entry finite x) 26) falls q.1 in
    let v = or_none (unless (every_pair lt x) 27) short u.1 in
    leb-true _ _ (unless_none (leb (length x) room) 29 (omega arith) v.1)

-- a list that passes its checks has room
pub list_room : (s a t x : List Float) (room : ℕ) → list_no s a t x room ≡ 0 → length x ≤ room
unfolding list_no
list_room s a t x room h = sampled x room (or_none (timed_no s a t) (samples_no x room) h).1

-- what the pass over the times of such a list leaves
pub list_done : (s a t : List Float) (x old : List ℕ) (r : Passage) (new : List ℕ) → list_no s a t (doubles_of x) (length old / 8) ≡ 0
    → Passed s a t (at (doubles_of x)) (min (length x / 8) (length old / 8)) old r new
    → (r.counts ≡ list_counts t (doubles_of x)) × (new ≡ filled (byte_of (list_station s a t (doubles_of x))) (8 * length (doubles_of x)) old)
list_done s a t x old r new h p =
    let e : min (length x / 8) (length old / 8) ≡ length (doubles_of x) = rw (← length_doubles x) (min-eq_left (list_room s a t (doubles_of x) (length old / 8) h)) in
    (rw e at p.counts, rw e at p.left)

-- the profile's numbers, then those of the times
pub timed_last : (s a t : List Float) → timed_no s a t ≡ (profile_no s a or speed_no a) or (unless (eqb (length t) (length s)) 20 or unless (every_entry finite t) 21 or unless (every_pair lt t) 22)
unfolding timed_no
timed_last s a t = sym (or_assoc (profile_no s a) (speed_no a) _)

-- a list of times or samples, as the test of a rising list tells it, alone and before later numbers
module _ (x : List Float) (infinite falls : ℕ) (h : infinite ≡ 0 → ⊥) where
  pub rising_alone : cond (every_entry finite x) (unless (every_pair lt x) falls) infinite ≡ unless (every_entry finite x) infinite or unless (every_pair lt x) falls
  rising_alone = or_cond (every_entry finite x) infinite (unless (every_pair lt x) falls) h

  pub rising_told : (later : ℕ)
      → cond (every_entry finite x) (unless (every_pair lt x) falls) infinite or later ≡ unless (every_entry finite x) infinite or unless (every_pair lt x) falls or later
  rising_told later = ap (λ (n : ℕ). n or later) rising_alone ∙ or_assoc (unless (every_entry finite x) infinite) (unless (every_pair lt x) falls) later
