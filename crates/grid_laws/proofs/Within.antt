-- No time of a grid is past the last time: were t0 plus i steps past it, then at most i + 1/2 steps would be left from t0 to the last time, and so
-- there would be no sample i. Assumes nothing.
use Prim.Native.Nat.{ℕ, zero, suc, ◌+◌, ◌-◌, ◌*◌, ◌%◌, ◌^◌, ◌≤◌, ◌<◌}
use mathlib.Core.Path.{◌≡◌, refl, sym, ap, subst}
use mathlib.Core.Logic.{◌⊎◌, inl, inr}
use mathlib.Core.Bool.{Bool, true, false, not, ◌&&◌}
use native.Mathlib.Nat.{mul-pos, mul-le-mul_right, zero-lt-suc}
use native.Mathlib.Omega.{arith}
use lib.Dec.{T, leb, ltb, eqb, leb→le}
use lib.IntN.{ℤ}
use lib.Pow.{pow_pos}
use lib.Ieee.{Float, nan, inf, fin, Format, binary64, prec, emax, low, up, down, round, neg, add, sub, div, le, lt, of_bits, to_unsigned, fits}
use lib.Ieee.Fits.{and_l, and_r, down_pos, round-fits, sub-fits}
use lib.Ieee.Scale.{finite}
use lib.Ieee.Positive.{den, den_pos}
use Rattle.number.specs.Doubles.{zero as plus-zero, ◌⊖◌, ◌⊘◌}
use Rattle.number.specs.Leaves.{whole_part}
use Rattle.refusals.specs.Most.{most_samples}
use Rattle.following.specs.Places.{grid_time}
use Rattle.number.proofs.Fractions.{plus_part, minus_part, le→AtMost, AtMost→le, at_most_trans}
use Rattle.number.proofs.Order.{number, nought, signed, finite_number, below_zero, neg_finite, eq_le, le_transitive}
use Rattle.number.proofs.Rounded.{Rounds, rounds_mono, rounds_lt, add_rounds, round_signed}
use Rattle.number.proofs.Monotone.{sub_number, sub_keeps}
use Rattle.number.proofs.Patterns.{own_rounds}
use Rattle.number.proofs.Sizes.{finite_test}
use Rattle.grid_laws.proofs.Products.{product, Near, product_near, whole_near}

neg_parts : (x : Float) → (plus_part (neg x) ≡ minus_part x) × (minus_part (neg x) ≡ plus_part x) × (den (neg x) ≡ den x)
unfolding neg
neg_parts nan = (refl, refl, refl)
neg_parts (inf s) = (refl, refl, refl)
neg_parts (fin true m e) = (refl, refl, refl)
neg_parts (fin false m e) = (refl, refl, refl)

-- what is rounded and not finite is beyond every finite value
beyond : (x y : Float) → T (finite x) → T (signed false y) → T (not (finite y)) → T (lt x y)
unfolding lt
beyond nan y X s n = absurd X
beyond (inf t) y X s n = absurd X
beyond (fin t m e) nan X s n = absurd s
beyond (fin t m e) (inf true) X s n = absurd s
beyond (fin t m e) (inf false) X s n = tt
beyond (fin t m e) (fin u k d) X s n = absurd n

module _ (f : Format) (last t0 : Float) (i m : ℕ) (e : ℤ) (few : i < 2 ^ (prec f - 1)) (M : 0 < m) (E : down e ≤ 2 ^ low f)
    (L : T (finite last)) (F : T (fits f last)) (Z : T (finite t0)) where
  -- i steps, and the time that is left from t0 on, rounded
  abbrev steps : Float
  steps = round f false (i * (m * up e)) (down e)

  abbrev remaining : Float
  remaining = sub f last t0

  remaining_rounds : Rounds f remaining (plus_part last * den t0 + minus_part t0 * den last) (minus_part last * den t0 + plus_part t0 * den last) (den last * den t0)
  unfolding sub
  remaining_rounds = let n = neg_parts t0 in rw (n.0, n.1, n.2) at (add_rounds f last (neg t0) L (neg_finite t0 Z))

  -- where i steps lead past the last time, i + 1/2 of them are no less than what remains
  by_finite : T (finite steps) → T (finite remaining) → T (lt last (add f t0 steps)) → Near f i m e few M remaining
  by_finite S D h =
      let past =
      rounds_lt f last (add f t0 steps) _ _ (den last) _ _ (den t0 * den steps) (den_pos last) (mul-pos (den_pos t0) (den_pos steps))
      (own_rounds f last F L) (add_rounds f t0 steps Z S) h in
      let below : T (le remaining steps) =
      rounds_mono f remaining steps _ _ (den last * den t0) _ _ (den steps) (mul-pos (den_pos last) (den_pos t0)) (den_pos steps) remaining_rounds
      (own_rounds f steps (round-fits f false (i * (m * up e)) (down e)) S) (omega (arith, past)) in
      at_most_trans _ _ (den remaining) _ _ (den steps) _ _ (2 * down e) (den_pos steps) (le→AtMost remaining steps D S below) (product_near f i m e few M E S)

  by_infinite : T (not (finite steps)) → T (finite remaining) → Near f i m e few M remaining
  by_infinite S D =
      let less =
      rounds_lt f remaining steps _ _ (den remaining) (i * (m * up e)) 0 (down e) (den_pos remaining) (down_pos e)
      (own_rounds f remaining (sub-fits f last t0) D) (inl (omega arith, ap (λ (n : ℕ). round f false n (down e)) (omega arith)))
      (beyond remaining steps D (round_signed f false (i * (m * up e)) (down e)) S) in
      omega (arith, less)

  near : T (finite remaining) → T (lt last (add f t0 steps)) → Near f i m e few M remaining
  near D h = go (finite steps) (λ t. t) (λ t. t)
    where
      go : (b : Bool) → (T b → T (finite steps)) → (T (not b) → T (not (finite steps))) → Near f i m e few M remaining
      go true S N = by_finite (S tt) D h
      go false S N = by_infinite (N tt) D

-- an infinite time has no whole steps, or as many as there can be
endless : (f : Format) (w : ℕ) (x : Float) (m : ℕ) (e : ℤ) → T (number x) → T (not (finite x))
    → (to_unsigned w (div f x (fin false m e)) ≡ 0) ⊎ (to_unsigned w (div f x (fin false m e)) ≡ 2 ^ w - 1)
unfolding div to_unsigned
endless f w nan m e X h = absurd X
endless f w (inf true) m e X h = inl refl
endless f w (inf false) m e X h = inr refl
endless f w (fin s k d) m e X h = absurd h

-- a time of which at most i + 1/2 steps remain has no sample i
no_sample : (x : Float) (i m : ℕ) (e : ℤ) (few : i < 2 ^ (prec binary64 - 1)) (M : 0 < m) → T (number x) → (T (finite x) → Near binary64 i m e few M x)
    → whole_part (x ⊘ fin false m e) ≤ most_samples → i < whole_part (x ⊘ fin false m e) → ⊥
no_sample x i m e few M X near n l = go (finite x) (λ t. t) (λ t. t)
  where
    go : (b : Bool) → (T b → T (finite x)) → (T (not b) → T (not (finite x))) → ⊥
    go true F N = omega (arith, l, whole_near binary64 i m e few M 64 x (F tt) (near (F tt)))
    go false F N = elim (endless binary64 64 x m e X (N tt)) [
      | inl z ↦ omega (arith, l, z)
      | inr z ↦ omega (arith, n, z)
    ]

step_fits : (f : Format) (m : ℕ) (e : ℤ) → T (fits f (fin false (suc m) e)) → down e ≤ 2 ^ low f
unfolding fits
step_fits f m e F =
    let a = eqb (suc m % 2) 1 && ltb (suc m) (2 ^ prec f) in
    let b = leb (down e) (2 ^ low f) in
    leb→le (down e) (2 ^ low f) (and_r a b (and_l (a && b) (ltb (suc m * up e) (2 ^ suc (emax f) * down e)) F))

-- a finite step above zero
by_step : (P : Float → Type 0) → ((m : ℕ) (e : ℤ) → P (fin false (suc m) e)) → (dt : Float) → T (finite dt) → (T (le dt plus-zero) → ⊥) → P dt
unfolding of_bits
by_step P g nan S A = absurd S
by_step P g (inf s) S A = absurd S
by_step P g (fin true m e) S A = absurd (A (below_zero (fin true m e) nought tt tt))
by_step P g (fin false zero e) S A = absurd (A (AtMost→le (fin false zero e) nought tt tt (omega arith)))
by_step P g (fin false (suc m) e) S A = g m e

module _ (last t0 dt : Float) (L : T (finite last)) (Z : T (finite t0)) (S : T (finite dt)) (A : T (le dt plus-zero) → ⊥) where
  abbrev whole_steps : Float → ℕ
  whole_steps dt = whole_part ((last ⊖ t0) ⊘ dt)

  remaining_number : T (number (last ⊖ t0))
  remaining_number = sub_number binary64 last t0 (finite_number last L) Z

  pub not_late : T (fits binary64 last) → T (fits binary64 dt) → whole_steps dt ≤ most_samples → (i : ℕ) → i < whole_steps dt → T (lt last (grid_time t0 dt i)) → ⊥
  unfolding grid_time
  not_late F G n i l h =
      by_step (λ dt. T (fits binary64 dt) → whole_steps dt ≤ most_samples → i < whole_steps dt → T (lt last (grid_time t0 dt i)) → ⊥) (λ m e G n l h.
      let few : i < 2 ^ 52 = omega (arith, l, n) in
      no_sample (last ⊖ t0) i (suc m) e few (zero-lt-suc m) remaining_number
      (λ D. near binary64 last t0 i (suc m) e few (zero-lt-suc m) (step_fits binary64 m e G) L F Z D (rw (product binary64 i (suc m) e few (zero-lt-suc m)) at h)) n l)
      dt S A G n l h

  -- so there is a sample only where t0 is not past the last time
  pub not_over : whole_steps dt ≤ most_samples → 0 < whole_steps dt → T (le last t0) → ⊥
  not_over n l h =
      let remaining = last ⊖ t0 in
      let none : T (le remaining nought) =
      le_transitive remaining (t0 ⊖ t0) nought (sub_keeps binary64 t0 last t0 remaining_number (sub_number binary64 t0 t0 (finite_number t0 Z) Z) h)
      (eq_le (t0 ⊖ t0) nought (subst T (sym (finite_test binary64 t0)) Z)) in
      by_step (λ dt. whole_steps dt ≤ most_samples → 0 < whole_steps dt → ⊥) (λ m e n l.
      no_sample remaining 0 (suc m) e (pow_pos 52) (zero-lt-suc m) remaining_number
      (λ D. omega (arith, mul-le-mul_right (2 * down e) (le→AtMost remaining nought D tt none))) n l)
      dt S A n l
