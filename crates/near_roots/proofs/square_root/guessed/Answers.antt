use Rattle.std.proofs.Common.{◌^◌, ap, ◌∙◌, lit<}
use lib.Ieee.{binary64}
use lib.Ieee.Bits.{of_bits-to_bits}
use Rattle.number.proofs.Order.{holds, le_number, not_nan}
use Rattle.exact_roots.specs.Root.{sqrt_of}
use Rattle.exact_roots.proofs.SqrtCases.{patterns_rise}
use Rattle.near_roots.proofs.square_root.guessed.Goals as goal

pub float_to_bits-b : goal.float_to_bits-b
float_to_bits-b c = let x = c.args.x in not_nan x (le_number _ x (holds c.if-x.true)).1

pub is_root-requires : goal.is_root-requires
is_root-requires c = (patterns_rise binary64 (2 ^ 52) (lit< tt) c.args.x (holds c.well_formed.0.1) (holds c.if-x.true), c.if-b-lt9218868437227405312.true)

pub returns-then-is_root : goal.returns-then-is_root
returns-then-is_root c =
    c.is_root.ensures c.if-is_root.true ∙ ap (sqrt_of binary64) (of_bits-to_bits binary64 c.args.x (holds c.well_formed.0.1))

pub returns-else-is_root : goal.returns-else-is_root
returns-else-is_root c = tt

pub returns-else-b-lt9218868437227405312 : goal.returns-else-b-lt9218868437227405312
returns-else-b-lt9218868437227405312 c = tt

pub returns-else-x : goal.returns-else-x
returns-else-x c = tt
