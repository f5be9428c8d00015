-- The tests of a block: with finite tolerances they are document 01's, that the residuals are finite and at most their tolerances.
use Rattle.std.proofs.Common.{◌≡◌, refl, subst, Bool, true, false, ◌&&◌, T}
use lib.Ieee.{Float, nan, inf, fin, binary64, le, lt, of_bits}
use lib.Ieee.Fits.{and_i, and_l, and_r}
use lib.Ieee.Scale.{finite}
use Rattle.number.proofs.Order.{no_more}
use Rattle.number.proofs.Monotone.{div_finite}
use Rattle.number.specs.Doubles.{◌⊘◌}
use Rattle.rows.specs.Row.{four_finite, all_within}
use Rattle.rows.specs.Judging.{within, three_within}

-- as the program writes it
pub minus_infinity : of_bits binary64 0xfff0_0000_0000_0000 ≡ inf true
unfolding of_bits
minus_infinity = refl

pub one_truth : (a b : Bool) → (T a → T b) → (T b → T a) → a ≡ b
one_truth true true h k = refl
one_truth true false h k = absurd (h tt)
one_truth false true h k = absurd (k tt)
one_truth false false h k = refl

-- -infinity is below every finite value
pub finite_above : (y : Float) → T (finite y) → T (lt (inf true) y)
unfolding lt
finite_above nan h = absurd h
finite_above (inf s) h = absurd h
finite_above (fin s m e) h = tt

module _ (y tol : Float) where
  within_finite : T (finite tol) → T (within y tol) → T (finite y)
  unfolding within lt
  within_finite F h = go y (and_l (lt (inf true) y) (le y tol) h) (and_r (lt (inf true) y) (le y tol) h)
    where
      go : (y : Float) → T (lt (inf true) y) → T (le y tol) → T (finite y)
      go nan l h = absurd l
      go (inf true) l h = absurd l
      go (inf false) l h = absurd (subst (λ (t : Float). T (finite t)) (no_more tol h) F)
      go (fin s m e) l h = tt

  within_le : T (within y tol) → T (le y tol)
  unfolding within
  within_le = and_r (lt (inf true) y) (le y tol)

  →within : T (finite y) → T (le y tol) → T (within y tol)
  unfolding within
  →within F h = and_i (lt (inf true) y) (le y tol) (finite_above y F) h

module _ (tol raw_tol first raw norm : Float) (F : T (finite tol)) (R : T (finite raw_tol)) where
  abbrev third : Float
  third = raw ⊘ norm

  to : T (three_within tol raw_tol first third raw) → T (all_within tol raw_tol first third raw)
  unfolding three_within all_within
  to h =
      let a = and_l (within first tol) (within third tol && le raw raw_tol) h in
      let r = and_r (within first tol) (within third tol && le raw raw_tol) h in
      let b = and_l (within third tol) (le raw raw_tol) r in
      let f = within_finite third tol F b in
      and_i (four_finite raw_tol first third raw) (le first tol && (le third tol && le raw raw_tol))
      (and_i (finite raw_tol) (finite first && (finite third && finite raw)) R
      (and_i (finite first) (finite third && finite raw) (within_finite first tol F a)
      (and_i (finite third) (finite raw) f (div_finite binary64 raw norm f))))
      (and_i (le first tol) (le third tol && le raw raw_tol) (within_le first tol a)
      (and_i (le third tol) (le raw raw_tol) (within_le third tol b) (and_r (within third tol) (le raw raw_tol) r)))

  back : T (all_within tol raw_tol first third raw) → T (three_within tol raw_tol first third raw)
  unfolding three_within all_within
  back h =
      let n = and_l (four_finite raw_tol first third raw) (le first tol && (le third tol && le raw raw_tol)) h in
      let l = and_r (four_finite raw_tol first third raw) (le first tol && (le third tol && le raw raw_tol)) h in
      let n2 = and_r (finite raw_tol) (finite first && (finite third && finite raw)) n in
      let n3 = and_r (finite first) (finite third && finite raw) n2 in
      let l2 = and_r (le first tol) (le third tol && le raw raw_tol) l in
      and_i (within first tol) (within third tol && le raw raw_tol)
      (→within first tol (and_l (finite first) (finite third && finite raw) n2) (and_l (le first tol) (le third tol && le raw raw_tol) l))
      (and_i (within third tol) (le raw raw_tol)
      (→within third tol (and_l (finite third) (finite raw) n3) (and_l (le third tol) (le raw raw_tol) l2))
      (and_r (le third tol) (le raw raw_tol) l2))

  pub within_all : three_within tol raw_tol first third raw ≡ all_within tol raw_tol first third raw
  within_all = one_truth (three_within tol raw_tol first third raw) (all_within tol raw_tol first third raw) to back
