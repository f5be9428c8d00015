use mathlib.Core.Path.{sym, ap, ◌∙◌}
use Prim.Native.Nat.{ℕ, ◌+◌}
use native.Mathlib.Nat.{zero-add}
use mathlib.Core.Bool.{Bool, cond}
use lib.Ieee.{binary64, of_bits}
use Rattle.rounding.proofs.Scaled.{no_nan, no_nan_negative}
use Rattle.rounding.proofs.packing.signed.Goals as goal

pub float_from_bits-result : goal.float_from_bits-result
float_from_bits-result c = no_nan_negative c.args.b c.requires

pub returns-then-neg : goal.returns-then-neg
returns-then-neg c = ap (λ (t : Bool). of_bits binary64 (cond t 0x8000_0000_0000_0000 0 + c.args.b)) (sym c.if-neg.true)

pub float_from_bits-result-2 : goal.float_from_bits-result-2
float_from_bits-result-2 c = no_nan c.args.b c.requires

pub returns : goal.returns
returns c =
    ap (λ (x : ℕ). of_bits binary64 x) (sym (zero-add c.args.b))
    ∙ ap (λ (t : Bool). of_bits binary64 (cond t 0x8000_0000_0000_0000 0 + c.args.b)) (sym c.if-neg.false)
