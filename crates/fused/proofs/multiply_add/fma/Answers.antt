use mathlib.Core.Path.{◌≡◌, sym, ◌∙◌}
use mathlib.Core.Bool.{true}
use lib.Ieee.{Float, binary64, fits, of_bits}
use lib.Ieee.Fits.{mul-fits}
use Rattle.number.proofs.Order.{holds}
use Rattle.fused.specs.Fused.{fma_of, Fused}
use Rattle.fused.proofs.NearestSum as nearest
use Rattle.fused.proofs.Settled.{settled}
use Rattle.fused.proofs.multiply_add.fma.Goals as goal

-- of three `f64`s, which the format holds
fused : (x y z r : Float) → fits binary64 x ≡ true → fits binary64 y ≡ true → fits binary64 z ≡ true → r ≡ fma_of binary64 x y z → Fused binary64 x y z r
fused x y z r X Y Z = nearest.fused binary64 x y z r (holds X) (holds Y) (holds Z)

pub returns-then-between : goal.returns-then-between
unfolding of_bits
returns-then-between c =
    let in_between = sym c.between.ensures ∙ c.if-between.true in
    let a = c.args in
    fused c.args.x c.args.y c.args.z _ c.well_formed.0.1 c.well_formed.1.0.1 c.well_formed.1.1.0.1
    (settled binary64 a.x a.y a.z _ _ (mul-fits binary64 _ _) (mul-fits binary64 _ _) in_between c.if-sum-far.true c.if-sum.true)

pub returns-then-sum-far : goal.returns-then-sum-far
returns-then-sum-far c = fused c.args.x c.args.y c.args.z _ c.well_formed.0.1 c.well_formed.1.0.1 c.well_formed.1.1.0.1 c.in_whole_numbers.ensures

pub returns : goal.returns
returns c = fused c.args.x c.args.y c.args.z _ c.well_formed.0.1 c.well_formed.1.0.1 c.well_formed.1.1.0.1 c.in_whole_numbers-2.ensures
