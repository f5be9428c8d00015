-- The theorem on `fma_of`, over any format: of finite values it is the value nearest to the exact sum of the product and the addend, with the sign of that sum,
-- or IEEE 754's where the sum is exactly zero; and no other value is. Assumes nothing.
use mathlib.Core.Path.{◌≡◌, sym, ◌∙◌, subst, subst⁻¹}
use Prim.Native.Nat.{ℕ, ◌*◌, ◌^◌, ◌<◌}
use native.Mathlib.Nat.{mul-pos}
use mathlib.Core.Bool.{Bool}
use lib.Dec.{T}
use lib.Pow.{pow_pos}
use lib.Ieee.{Float, Format, low, fits, unlike}
use lib.Ieee.Exact.{HasValue}
use Rattle.number.specs.Units.{units_of}
use Rattle.number.specs.Leaves.{negative}
use Rattle.number.proofs.Patterns.{units_value}
use Rattle.nearness.specs.Nearness.{fraction, Nearest}
use Rattle.nearness.proofs.RoundNearest.{round_nearest}
use Rattle.nearness.proofs.OneNearest.{only_fraction}
use Rattle.whole_fma.specs.MultiplyAdd.{exact_size, exact_sign}
use Rattle.fused.specs.Fused.{fma_of, sign_of_sum, square_units, FmaNearest, Fused}
use Rattle.whole_fma.proofs.Sums.{sum_is, fma_value}

-- of ±A / c, ±B / c and ±C / c
module _ (f : Format) (x y z : Float) (s t u : Bool) (A B C c : ℕ) (P : 0 < c) (X : HasValue x s A c) (Y : HasValue y t B c) (Z : HasValue z u C c) where
  abbrev sign : Bool
  sign = exact_sign (unlike s t) (A * B) u (C * c)

  abbrev size : ℕ
  size = exact_size (unlike s t) (A * B) u (C * c)

  fraction_nearest : Nearest f sign (fraction f size (c * c)) (fma_of f x y z)
  fraction_nearest =
      subst (Nearest f sign (fraction f size (c * c))) (sym (fma_value f x y z s t u A B C c P X Y Z ∙ sum_is f (unlike s t) (A * B) u (C * c) (c * c)))
      (round_nearest f sign size (c * c) (mul-pos P P))

-- of values that the format holds, counted in units of 2 ^ -low
module _ (f : Format) (x y z r : Float) (X : T (fits f x)) (Y : T (fits f y)) (Z : T (fits f z)) (e : r ≡ fma_of f x y z) where
  fma_nearest : FmaNearest f x y z (fma_of f x y z)
  fma_nearest h k l =
      fraction_nearest f x y z (negative x) (negative y) (negative z) (units_of f x) (units_of f y) (units_of f z) (2 ^ low f) (pow_pos (low f))
      (units_value f x X h) (units_value f y Y k) (units_value f z Z l)

  near : FmaNearest f x y z r
  near = subst⁻¹ (FmaNearest f x y z) e fma_nearest

  -- what the contract says, from its equation
  pub fused : Fused f x y z r
  fused = record {
    is = e;
    nearest = near;
    only = λ h k l. only_fraction f (sign_of_sum f x y z) (square_units f x y z) (2 ^ low f * 2 ^ low f) (mul-pos (pow_pos (low f)) (pow_pos (low f))) r (near h k l);
  }
