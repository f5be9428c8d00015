use mathlib.Core.Path.{◌≡◌, refl, ap, ◌∙◌}
use mathlib.Core.Bool.{false}
use lib.Dec.{T}
use lib.Ieee.{Float, binary64, of_bits}
use lib.Ieee.Bits.{of_bits-fits}
use Rattle.number.specs.Leaves.{negative, maximum}
use Rattle.number.proofs.Order.{holds, number}
use Rattle.number.proofs.Picks.{maximum_less, maximum_kept}
use Rattle.number.specs.Doubles.{one}
use Rattle.rows.proofs.reading.scale.Goals as goal

one_number : T (number one)
unfolding of_bits
one_number = tt

one_unsigned : negative one ≡ false
unfolding negative of_bits
one_unsigned = refl

pub returns-then-size : goal.returns-then-size
returns-then-size c = let a = c.absolute-size in maximum_less a.result one c.if-size.true ∙ ap (λ (x : Float). maximum x one) a.ensures

pub returns-else-size : goal.returns-else-size
returns-else-size c =
    let a = c.absolute-size in
    maximum_kept binary64 a.result one (holds a.type_inv) (of_bits-fits binary64 0x3ff0000000000000) one_number one_unsigned c.if-size.false
    ∙ ap (λ (x : Float). maximum x one) a.ensures
