-- A worst figure starts at +0 and only grows, so that one comparison is the maximum.
use Rattle.std.proofs.Common.{◌≡◌, refl, Bool, true, false, not, ◌&&◌, ◌||◌, cond, T}
use lib.Ieee.{Float, nan, inf, fin, lt, eq, is_nan, of_bits}
use Rattle.number.specs.Leaves.{negative, counts_below, maximum}
use Rattle.number.proofs.Order.{holds, number, signed, below_zero, lt_number, lt_not_le}
use Rattle.number.proofs.Picks.{maximum_more}
use Rattle.number.specs.Doubles.{zero}
use Rattle.certificates.specs.RowByRow.{worse}

-- +0 or a number above it
unfoldable pub from_zero : Float → Bool
from_zero x = not (is_nan x) && not (negative x)

above : (w : Float) → T (from_zero w) → T (signed false w)
unfolding from_zero is_nan negative
above nan h = absurd h
above (inf true) h = absurd h
above (inf false) h = tt
above (fin true m e) h = absurd h
above (fin false m e) h = tt

-- what is not below +0
from : (x : Float) → T (number x) → (T (signed true x) → ⊥) → T (from_zero x)
unfolding from_zero is_nan negative
from nan n h = absurd n
from (inf true) n h = absurd (h tt)
from (inf false) n h = tt
from (fin true m e) n h = absurd (h tt)
from (fin false m e) n h = tt

module _ (w x : Float) (h : T (from_zero w)) where
  -- the parts of from_zero
  no_nan : is_nan w ≡ false
  unfolding from_zero
  no_nan = go (is_nan w) h
    where
      go : (b : Bool) → T (not b && not (negative w)) → b ≡ false
      go true t = absurd t
      go false t = refl

  no_sign : negative w ≡ false
  unfolding from_zero
  no_sign = go (is_nan w) (negative w) h
    where
      go : (b c : Bool) → T (not b && not c) → c ≡ false
      go true c t = absurd t
      go false true t = absurd t
      go false false t = refl

  kept_is : lt w x ≡ false → w ≡ maximum w x
  unfolding maximum counts_below
  kept_is l = rw (no_nan, no_sign, l) (go (is_nan x) (eq w x))
    where
      go : (b c : Bool) → w ≡ cond b w (cond (false || (c && (false && not (negative x)))) x w)
      go true c = refl
      go false true = refl
      go false false = refl

  pub worse_is : worse w x ≡ maximum w x
  unfolding worse
  worse_is = go (lt w x) refl
    where
      go : (b : Bool) → lt w x ≡ b → cond b x w ≡ maximum w x
      go true l = maximum_more w x l
      go false l = kept_is l

  pub worse_from : T (from_zero (worse w x))
  unfolding worse
  worse_from = go (lt w x) refl
    where
      go : (b : Bool) → lt w x ≡ b → T (from_zero (cond b x w))
      go true l = from x (lt_number w x (holds l)).1 (λ s. lt_not_le w x (holds l) (below_zero x w s (above w h)))
      go false l = h

pub zero_from : T (from_zero zero)
unfolding from_zero is_nan negative of_bits
zero_from = tt
