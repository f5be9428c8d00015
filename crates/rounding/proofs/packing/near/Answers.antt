use mathlib.Core.Path.{sym, ap, ◌∙◌}
use Prim.Native.Nat.{ℕ, ◌^◌}
use native.Mathlib.Nat.{div-mul-le_self}
use native.Mathlib.Omega.{arith}
use lib.Ieee.Nearest.{closest}
use Rattle.rounding.proofs.Halves.{far, whole_up, whole_down, quot_small, code_fits, code_up, code_stay}
use Rattle.rounding.proofs.packing.near.Goals as goal

pub returns-then-sh-gt64 : goal.returns-then-sh-gt64
returns-then-sh-gt64 c = far c.args.w c.args.sh c.ranges.w.fits c.if-sh-gt64.true

pub returns-then-w-gt9223372036854775808 : goal.returns-then-w-gt9223372036854775808
returns-then-w-gt9223372036854775808 c =
    let a = c.args in
    whole_up a.w c.ranges.w.fits c.if-w-gt9223372036854775808.true ∙ ap (λ (x : ℕ). closest a.w (2 ^ x)) (sym c.if-sh-eq64.true)

pub returns-else-w-gt9223372036854775808 : goal.returns-else-w-gt9223372036854775808
returns-else-w-gt9223372036854775808 c =
    let a = c.args in
    whole_down a.w c.ranges.w.fits c.if-w-gt9223372036854775808.false ∙ ap (λ (x : ℕ). closest a.w (2 ^ x)) (sym c.if-sh-eq64.true)

pub overflow_sub-r : goal.overflow_sub-r
overflow_sub-r c = omega (arith, div-mul-le_self c.args.w (2 ^ c.args.sh))

pub overflow_add-r : goal.overflow_add-r
overflow_add-r c =
    record { fits = code_fits c.args.w c.args.sh c.ranges.w.fits c.requires (omega (arith, c.if-sh-eq64.false, c.if-sh-gt64.false)) }

pub overflow_add-result : goal.overflow_add-result
overflow_add-result c =
    record { fits = omega (arith, quot_small c.args.w c.args.sh c.ranges.w.fits c.requires) }

pub returns-then-r-q : goal.returns-then-r-q
returns-then-r-q c =
    code_up c.args.w c.args.sh c.ranges.w.fits c.requires (omega (arith, c.if-sh-eq64.false, c.if-sh-gt64.false)) c.if-r-q.true

pub returns : goal.returns
returns c =
    code_stay c.args.w c.args.sh c.ranges.w.fits c.requires (omega (arith, c.if-sh-eq64.false, c.if-sh-gt64.false)) c.if-r-q.false
