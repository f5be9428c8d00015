-- What passing every check of an even grid says, and what the grid owes to its outcome.
use Rattle.std.proofs.Common.{ℕ, ◌+◌, ◌*◌, ◌/◌, ◌≤◌, min, ◌≡◌, refl, ap, ◌∙◌, Bool, true, false, not, cond, ◌&&◌, List, add-zero, le_refl, arith, leb-true, lt-ltb, le-ltb, leb, ltb, Ok, Err, length, Float}
use Rattle.std.specs.Float.Ieee.{le}
use native.Mathlib.Nat.{min-eq_left}
use Rattle.std.specs.Float.Ieee.Scale.{finite}
use Rattle.number.specs.Doubles.{zero as plus-zero}
use Rattle.loops.specs.Upto.{filled}
use Rattle.refusals.specs.Most.{most_samples}
use Rattle.refusals.specs.Refusals.{unless, ◌or◌}
use Rattle.refusals.specs.Outcome.{Outcome}
use Rattle.refusals.proofs.Chains.{or_none, unless_none}
use Rattle.refusals.proofs.Outcomes.{succeeds}
use Rattle.byte_lists.specs.Bytes.{byte_of, double_put}
use Rattle.byte_lists.proofs.Encoding.{fill_put, bytes_same}
use Rattle.following.specs.Places.{grid_time, counts_of}
use Rattle.following.specs.Following.{last_entry, Passed}
use Rattle.following.specs.declared.pass.Counts.{Counts}
use Rattle.following.specs.declared.pass.Passage.{Passage}
use Rattle.sampling.specs.Samples.{timed_no}
use Rattle.sampling.proofs.Samplings.{timed}
use Rattle.strap_end.specs.Final.{final_added}
use Rattle.gridding.specs.Grid.{last_of, grid_size, even_no, grid_no, grid_station, grid_entry, grid_entries, grid_counts}
use Rattle.gridding.specs.Ending.{entry_more, Ended}

-- 16, 23, 24 and 28 are not given
pub record Laid (t : List Float) (t0 dt : Float) : Type 0 where
  pub start_finite : finite t0 ≡ true
  pub step_finite : finite dt ≡ true
  pub step_positive : not (le dt plus-zero) ≡ true
  pub few : grid_size t t0 dt ≤ most_samples

pub laid : (t : List Float) (t0 dt : Float) → even_no t t0 dt ≡ 0 → Laid t t0 dt
unfolding even_no
laid t t0 dt h =
    let few = leb (grid_size t t0 dt) most_samples in
    let many = unless few 28 in
    let still = unless (not (le dt plus-zero)) 24 or many in
    let p = or_none (unless (finite t0) 16) (unless (finite dt) 23 or still) h in
    let q = or_none (unless (finite dt) 23) still p.1 in
    let u = or_none (unless (not (le dt plus-zero)) 24) many q.1 in
    record {
      start_finite = unless_none (finite t0) 16 (omega arith) p.0;
      step_finite = unless_none (finite dt) 23 (omega arith) q.0;
      step_positive = unless_none (not (le dt plus-zero)) 24 (omega arith) u.0;
      few = leb-true _ _ (unless_none few 28 (omega arith) u.1);
    }

pub unrefused : (s a t : List Float) (t0 dt : Float) (final : Bool) (room : ℕ) → grid_no s a t t0 dt final room ≡ 0
    → (timed_no s a t ≡ 0) × Laid t t0 dt × (grid_size t t0 dt + cond final 1 0 ≤ room)
unfolding grid_no
unrefused s a t t0 dt final room h =
    let enough = leb (grid_size t t0 dt + cond final 1 0) room in
    let p = or_none (timed_no s a t) (even_no t t0 dt or unless enough 29) h in
    let u = or_none (even_no t t0 dt) (unless enough 29) p.1 in
    (p.0, laid t t0 dt u.0, leb-true _ _ (unless_none enough 29 (omega arith) u.1))

pub gridded : (s a t : List Float) (t0 dt : Float) (final : Bool) (room : ℕ) → grid_no s a t t0 dt final room ≡ 0
    → (length t ≡ length s) × (2 ≤ length s) × (grid_size t t0 dt ≤ most_samples) × (grid_size t t0 dt + cond final 1 0 ≤ room)
gridded s a t t0 dt final room h =
    let p = unrefused s a t t0 dt final room h in
    let q = timed s a t p.0 in
    (q.1, q.2, p.1.few, p.2)

-- room for the final is needed where it is asked for, added or not
room : (final : Bool) (t0 time entry station : Float) → cond (final_added final t0 time entry station) 1 0 ≤ cond final 1 0
unfolding final_added
room false t0 time entry station = omega arith
room true t0 time entry station = at_most (le t0 time && not (le station entry))
  where
    at_most : (b : Bool) → cond b 1 0 ≤ 1
    at_most false = omega arith
    at_most true = omega arith

-- v after the first n entries, or nothing
ended : (f : ℕ → Float) (n : ℕ) (v : Float) (b : Bool) (old : List ℕ) → n + cond b 1 0 ≤ length old / 8
    → cond b (double_put (filled (byte_of f) (8 * n) old) n v) (filled (byte_of f) (8 * n) old) ≡ filled (byte_of (λ i. cond (ltb i n) (f i) v)) (8 * (n + cond b 1 0)) old
ended f n v b old h = go b h
  where
    g : ℕ → Float
    g i = cond (ltb i n) (f i) v

    same : filled (byte_of f) (8 * n) old ≡ filled (byte_of g) (8 * n) old
    same = bytes_same f g n old (λ k l. rw (lt-ltb k n l))

    go : (b : Bool) → n + cond b 1 0 ≤ length old / 8
        → cond b (double_put (filled (byte_of f) (8 * n) old) n v) (filled (byte_of f) (8 * n) old) ≡ filled (byte_of g) (8 * (n + cond b 1 0)) old
    go true h = fill_put g n v old (filled (byte_of f) (8 * n) old) _ (omega arith) same (rw (le-ltb n n (le_refl n))) refl
    go false h = rw add-zero same

counted : (t : List Float) (x : ℕ → Float) (n : ℕ) (b : Bool) → cond b (entry_more (counts_of t x n n)) (counts_of t x n n) ≡ counts_of t x n (n + cond b 1 0)
unfolding counts_of entry_more
counted t x n true = refl
counted t x n false = simp add-zero

-- what the pass over the times leaves, and the final after it
module _ (s a t : List Float) (t0 dt : Float) (final : Bool) (old : List ℕ) (n : ℕ) (p : Passage) (mid : List ℕ)
    (z : grid_no s a t t0 dt final (length old / 8) ≡ 0) (e : n ≡ grid_size t t0 dt) (w : Passed s a t (grid_time t0 dt) (min n (length old / 8)) old p mid) where
  all_passed : Passed s a t (grid_time t0 dt) n old p mid
  all_passed =
      let fits = gridded s a t t0 dt final (length old / 8) z in
      let m : min n (length old / 8) ≡ n = min-eq_left (omega (arith, fits)) in
      rw m at w

  pub few_written : p.counts.written ≤ most_samples
  unfolding counts_of
  few_written = let fits = gridded s a t t0 dt final (length old / 8) z in rw all_passed.counts (omega (arith, fits))

  pub finished : (r : Counts) (new : List ℕ) → Ended (final_added final t0 (last_of t) p.last (last_of s)) n (last_of s) p.counts mid r new
      → Outcome (Ok (grid_counts s a t t0 dt final)) Err (grid_no s a t t0 dt final (length old / 8))
      (byte_of (grid_entry s a t t0 dt)) (8 * grid_entries s a t t0 dt final) old (Ok r) new
  unfolding grid_entry grid_entries grid_station
  finished r new d =
      let f = grid_station s a t t0 dt in
      let q = all_passed in
      let added = final_added final t0 (last_of t) (last_entry f n) (last_of s) in
      let fits = gridded s a t t0 dt final (length old / 8) z in
      let h : n + cond added 1 0 ≤ length old / 8 = omega (arith, room final t0 (last_of t) (last_entry f n) (last_of s), fits) in
      succeeds z (ap Ok ((rw (q.last, q.counts) at d.counts) ∙ counted t (grid_time t0 dt) n added ∙ rw e refl))
      ((rw (q.last, q.left) at d.left) ∙ ended f n (last_of s) added old h ∙ rw e refl)
