-- One row with its norm n and its raw tolerance t worked out: what it is read as, in the code's order.
use Rattle.std.proofs.Common.{ℕ, ◌≡◌, refl, Bool, true, false, not, ◌&&◌, ◌||◌, Some, None, Result, Ok, Err, sym}
use Rattle.std.proofs.lemmas.Bool.{not-true, not-false}
use mathlib.Core.Bool.{and-false}
use lib.Ieee.{Float, nan, inf, fin, binary64, eq, lt}
use lib.Ieee.Scale.{finite}
use Rattle.refusals.specs.Refusals.{unless}
use Rattle.refusals.specs.Refusal.{number_of}
use Rattle.refusals.specs.declared.refusal.Refusal.{Refusal}
use Rattle.refusals.proofs.Refused.{number_some}
use Rattle.number.specs.Doubles.{zero, one, ◌⊗◌, ◌⊘◌}
use Rattle.roots.specs.Hypot.{hypot_of}
use Rattle.rows.specs.Rows.{Row}
use Rattle.rows.specs.Row.{norm, raw_tol, four_finite, numbers_finite, unfit, unmeetable}
use Rattle.rows.specs.Reading.{block_of, reading_of}
use Rattle.rows.specs.declared.block.Block.{Block}

-- a test that stopped the reading failed
pub stopped : {A : Type 0} {x : Result A ℕ} (e : Refusal) (ok : Bool) (n : ℕ) → number_of e ≡ unless ok n → (ok ≡ false → Err n ≡ x) → Err (number_of e) ≡ x
stopped e true n h k = absurd (number_some e h)
stopped e false n h k = rw h (k refl)

-- a norm that is finite has finite parts
norm_tells : (c p r : Float) → four_finite c p r (hypot_of binary64 c p) ≡ (finite r && finite (hypot_of binary64 c p))
unfolding hypot_of
norm_tells (inf s) p r = sym (and-false (finite r))
norm_tells nan (inf t) r = sym (and-false (finite r))
norm_tells nan nan r = sym (and-false (finite r))
norm_tells nan (fin t n d) r = sym (and-false (finite r))
norm_tells (fin s m e) (inf t) r = sym (and-false (finite r))
norm_tells (fin s m e) nan r = sym (and-false (finite r))
norm_tells (fin s m e) (fin t n d) r = refl

module _ (tol a : Float) (w : Row) where
  abbrev block : Float → Float → Block
  block n t = record {
    incline = w.curr ⊗ (one ⊘ n);
    shift = (w.prev ⊗ (one ⊘ n)) ⊗ a;
    bound = w.rhs ⊗ (one ⊘ n);
    curr = w.curr;
    prev = w.prev ⊗ a;
    rhs = w.rhs;
    norm = n;
    tol = t;
  }

  unfit_by : (n t : Float) → n ≡ norm w → t ≡ raw_tol tol w
      → unfit tol w ≡ not ((finite w.rhs && finite n) && (eq n zero || (finite (one ⊘ n) && finite t)))
  unfolding unfit numbers_finite
  unfit_by n t e b = rw (e, b, norm_tells w.curr w.prev w.rhs)

  pub numbers_unfit : (n : Float) → n ≡ norm w → (finite w.rhs && finite n) ≡ false → Err 5 ≡ reading_of tol a w
  unfolding reading_of
  numbers_unfit n e f = rw (unfit_by n (raw_tol tol w) e refl, f)

  module _ (n : Float) (e : n ≡ norm w) (f : (finite w.rhs && finite n) ≡ true) where
    module _ (z : eq n zero ≡ true) where
      pub unmeetable_read : not (lt w.rhs zero) ≡ false → Err 6 ≡ reading_of tol a w
      unfolding reading_of unmeetable
      unmeetable_read h = let l = not-false (lt w.rhs zero) h in rw (unfit_by n (raw_tol tol w) e refl, ← e, f, z, l)

      pub silent_read : not (lt w.rhs zero) ≡ true → Ok None ≡ reading_of tol a w
      unfolding reading_of unmeetable
      silent_read h = let l = not-true (lt w.rhs zero) h in rw (unfit_by n (raw_tol tol w) e refl, ← e, f, z, l)

    module _ (t : Float) (b : t ≡ raw_tol tol w) (z : eq n zero ≡ false) where
      pub scale_unfit : (finite (one ⊘ n) && finite t) ≡ false → Err 5 ≡ reading_of tol a w
      unfolding reading_of
      scale_unfit h = rw (unfit_by n t e b, f, z, h)

      same_block : block n t ≡ block_of tol a w
      unfolding block_of
      same_block = rw (e, b)

      pub block_read : (finite (one ⊘ n) && finite t) ≡ true → Ok (Some (block n t)) ≡ reading_of tol a w
      unfolding reading_of unmeetable
      block_read h = rw (same_block, unfit_by n t e b, f, z, h, ← e, z)
