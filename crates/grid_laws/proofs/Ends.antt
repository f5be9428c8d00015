-- What a grid that is not refused says of its times and of its end. Assumes nothing.
use Prim.Native.Nat.{ℕ, zero, suc, ◌+◌, ◌-◌, ◌≤◌, ◌<◌}
use mathlib.Core.Path.{◌≡◌, refl, ap, ◌∙◌}
use mathlib.Core.Logic.{inl, inr}
use mathlib.Core.Bool.{Bool, true, false, not, cond, ◌&&◌, ◌||◌, true≢false, false≢true}
use mathlib.Core.List.{List}
use native.Mathlib.Nat.{zero-lt-suc}
use native.Mathlib.Omega.{arith}
use borrow.Author.Tests.{lt-ltb, ne_eqb}
use lib.Dec.{T, eqb}
use lib.ListN.{length}
use lib.Ieee.{Float, nan, inf, fin, le, lt, is_nan}
use lib.Ieee.Bits.{is_true}
use lib.Ieee.Scale.{finite}
use Rattle.number.specs.Doubles.{zero as plus-zero}
use Rattle.number.proofs.Order.{number, holds, no_nan, finite_number, less_or_not, lt_or_le, lt_le, lt_not_le}
use Rattle.loops.specs.Upto.{first, at}
use Rattle.loops.specs.Entries.{every_entry}
use Rattle.loops.proofs.Counting.{first_before, entry_at}
use Rattle.profile.proofs.Profiles.{both_finite}
use Rattle.following.specs.Places.{interval_of, is_before, is_inside, is_past, grid_time}
use Rattle.strap_end.specs.Final.{final_added}
use Rattle.refusals.specs.Most.{most_samples}
use Rattle.refusals.proofs.Chains.{or_none}
use Rattle.profile.specs.Profile.{profile_no}
use Rattle.sampling.specs.Samples.{timed_no}
use Rattle.sampling.proofs.Samplings.{timed}
use Rattle.gridding.specs.Grid.{last_of, grid_size, grid_no, grid_station}
use Rattle.gridding.proofs.Griddings.{unrefused}
use Rattle.grid_laws.specs.GridLaws.{NonePast, AddedAsBy01, OnlyAfterNaN}
use Rattle.grid_laws.proofs.Within.{not_late, not_over}

-- ---- what a test's answer says

not_false : (b : Bool) → not b ≡ false → T b
not_false true e = tt
not_false false e = absurd (true≢false e)

not_true : (b : Bool) → not b ≡ true → T b → ⊥
not_true true e t = absurd (false≢true e)
not_true false e t = t

is_false : (b : Bool) → (T b → ⊥) → b ≡ false
is_false true h = absurd (h tt)
is_false false h = refl

-- ---- the last time ends an interval, so that a time not past it has one

interval_found : (t : List Float) (x : Float) → 2 ≤ length t → (T (lt (last_of t) x) → ⊥) → interval_of t x < length t - 1
unfolding interval_of last_of
interval_found t x h late = elim (less_or_not (first p n) n) [ inl l ↦ l | inr g ↦ absurd (never g) ]
  where
    n : ℕ
    n = length t - 1

    p : ℕ → Bool
    p k = not (lt (at t (k + 1)) x)

    never : n ≤ first p n → ⊥
    never g =
        let e : n ≡ n - 1 + 1 = omega (arith, h) in
        late (not_false (lt (at t n) x) (ap (λ (k : ℕ). not (lt (at t k) x)) e ∙ first_before p n (n - 1) (omega (arith, h, g))))

found_not_past : (t : List Float) (x : Float) → interval_of t x < length t - 1 → is_past t x ≡ false
unfolding is_past is_inside
found_not_past t x h = rw (lt-ltb _ _ h) (go (is_before t x))
  where
    go : (b : Bool) → (not b && not (not b && true)) ≡ false
    go true = refl
    go false = refl

last_finite : (x : List Float) → 2 ≤ length x → every_entry finite x ≡ true → T (finite (last_of x))
unfolding last_of
last_finite x h e = holds (entry_at finite x (length x - 1) e (omega (arith, h)))

-- ---- a grid that is not refused

stations_finite : (s a t : List Float) → timed_no s a t ≡ 0 → every_entry finite s ≡ true
unfolding timed_no
stations_finite s a t h = (both_finite s a (or_none (profile_no s a) _ h).0).0

-- what its tests say of the last station, the last time, t0 and dt
record Facts (s t : List Float) (t0 dt : Float) : Type 0 where
  long : 2 ≤ length t
  station : T (finite (last_of s))
  time : T (finite (last_of t))
  start : T (finite t0)
  step : T (finite dt)
  forward : T (le dt plus-zero) → ⊥
  few : grid_size t t0 dt ≤ most_samples

facts : (s a t : List Float) (t0 dt : Float) (asked : Bool) (room : ℕ) → grid_no s a t t0 dt asked room ≡ 0 → Facts s t t0 dt
facts s a t t0 dt asked room h =
    let p = unrefused s a t t0 dt asked room h in
    let q = timed s a t p.0 in
    let g = p.1 in
    let l : 2 ≤ length t = omega (arith, q.1, q.2) in
    record {
      long = l;
      station = last_finite s q.2 (stations_finite s a t p.0);
      time = last_finite t l q.3;
      start = holds g.start_finite;
      step = holds g.step_finite;
      forward = not_true (le dt plus-zero) g.step_positive;
      few = g.few;
    }

pub none_past : NonePast
unfolding grid_size
none_past s a t t0 dt asked room h L F i l =
    let g = facts s a t t0 dt asked room h in
    let x = grid_time t0 dt i in
    found_not_past t x (interval_found t x g.long (not_late (last_of t) t0 dt g.time g.start g.step g.forward L F g.few i l))

-- a sample is made only where t0 is not past the last time
begun : (s t : List Float) (t0 dt : Float) → Facts s t t0 dt → 0 < grid_size t t0 dt → le t0 (last_of t) ≡ true
unfolding grid_size
begun s t t0 dt g l = elim (lt_or_le (last_of t) t0 (finite_number (last_of t) g.time) (finite_number t0 g.start)) [
  | inl o ↦ absurd (not_over (last_of t) t0 dt g.time g.start g.step g.forward g.few l (lt_le (last_of t) t0 o))
  | inr k ↦ is_true (le t0 (last_of t)) k
]

-- ---- the end

nothing_to_nan : (x : Float) → le x nan ≡ false
unfolding le
nothing_to_nan nan = refl
nothing_to_nan (inf s) = refl
nothing_to_nan (fin s m e) = refl

-- an entry that is not at or past a station is less, or NaN
ordered : (v station : Float) → T (number v) → T (number station) → not (le station v) ≡ lt v station || is_nan v
ordered v station X S = elim (lt_or_le v station X S) [
  | inl l ↦ rw (is_true (lt v station) l, is_false (le station v) (lt_not_le v station l))
  | inr g ↦ rw (is_true (le station v) g, is_false (lt v station) (λ l. lt_not_le v station l g), no_nan v X)
]

not_there : (v station : Float) → T (number station) → not (le station v) ≡ lt v station || is_nan v
unfolding lt is_nan
not_there nan station S = rw (nothing_to_nan station)
not_there (inf s) station S = ordered (inf s) station tt S
not_there (fin s m e) station S = ordered (fin s m e) station tt S

rules : (asked : Bool) (n : ℕ) (t0 time v station : Float) → T (number station) → (0 < n → le t0 time ≡ true)
    → AddedAsBy01 asked n t0 time (cond (eqb n 0) nan v) station
unfolding final_added
rules asked zero t0 time v station S h = ap (λ (b : Bool). asked && b) (rw (nothing_to_nan station) (go (le t0 time)))
  where
    go : (b : Bool) → (b && true) ≡ (b || false)
    go true = refl
    go false = refl
rules asked (suc n) t0 time v station S h = rw (ne_eqb (suc n) 0 (λ z. omega (arith, z)), h (zero-lt-suc n)) (ap (λ (b : Bool). asked && b) (not_there v station S))

pub only_after_nan : OnlyAfterNaN
only_after_nan s a t t0 dt asked room h =
    let g = facts s a t t0 dt asked room h in
    let n = grid_size t t0 dt in
    rules asked n t0 (last_of t) (grid_station s a t t0 dt (n - 1)) (last_of s) (finite_number (last_of s) g.station) (begun s t t0 dt g)
