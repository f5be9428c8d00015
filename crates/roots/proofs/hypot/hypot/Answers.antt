use mathlib.Core.Path.{◌∙◌}
use Prim.Native.Nat.{◌%◌, ◌^◌}
use native.Mathlib.Omega.{arith}
use lib.Ieee.{binary64, to_bits}
use Rattle.number.proofs.Order.{holds}
use Rattle.exact_roots.proofs.NearestRoot.{spanned}
use Rattle.exact_roots.proofs.HypotCases.{code_unsigned, sorted_in, code_sorted}
use Rattle.roots.proofs.hypot.hypot.Goals as goal

pub tried_length-requires : goal.tried_length-requires
tried_length-requires c =
    sorted_in (to_bits binary64 c.args.x % 2 ^ 63) (to_bits binary64 c.args.y % 2 ^ 63) c.max.result c.min.result (c.max.ensures, c.min.ensures) (omega arith) (omega arith)

pub returns-then-is_nan : goal.returns-then-is_nan
returns-then-is_nan c = spanned binary64 _ _ _ c.any_length.ensures

pub returns : goal.returns
returns c =
    spanned binary64 _ _ _ (
    c.tried_length.ensures
    ∙ code_sorted (to_bits binary64 c.args.x % 2 ^ 63) (to_bits binary64 c.args.y % 2 ^ 63) c.max.result c.min.result (c.max.ensures, c.min.ensures)
    ∙ code_unsigned c.args.x c.args.y (holds c.well_formed.0.1) (holds c.well_formed.1.0.1)
    )
