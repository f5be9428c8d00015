use mathlib.Core.Path.{ap, ◌∙◌}
use lib.Ieee.{binary64, of_bits}
use lib.Ieee.Bits.{of_bits-to_bits}
use Rattle.number.proofs.Order.{nought, holds, fails, lt_number, not_nan}
use Rattle.number.proofs.Downward.{down_above}
use Rattle.roots.specs.Root.{sqrt_of}
use Rattle.exact_roots.proofs.NearestRoot.{rooted}
use Rattle.exact_roots.proofs.SqrtCases.{only_infinity, below_zero, neither_side}
use Rattle.roots.proofs.square_root.sqrt.Goals as goal

pub returns-in-Some : goal.returns-in-Some
returns-in-Some c =
    rooted binary64 _ _ c.in-Some.ensures

pub float_to_bits-b : goal.float_to_bits-b
unfolding of_bits
float_to_bits-b c = let x = c.args.x in not_nan x (lt_number nought x (holds c.if-x.true)).1

pub positive_root-requires : goal.positive_root-requires
unfolding of_bits
positive_root-requires c =
    ((down_above binary64 c.args.x (holds c.well_formed.0.1) (holds c.if-x.true)).0, c.if-b-lt9218868437227405312.true)

pub returns-then-b-lt9218868437227405312 : goal.returns-then-b-lt9218868437227405312
returns-then-b-lt9218868437227405312 c =
    rooted binary64 _ _ (c.positive_root.ensures ∙ ap (sqrt_of binary64) (of_bits-to_bits binary64 c.args.x (holds c.well_formed.0.1)))

pub returns-then-x : goal.returns-then-x
unfolding of_bits
returns-then-x c =
    rooted binary64 _ _ (only_infinity binary64 c.args.x (holds c.well_formed.0.1) (holds c.if-x.true) c.if-b-lt9218868437227405312.false)

pub returns-then-x-2 : goal.returns-then-x-2
unfolding of_bits
returns-then-x-2 c = rooted binary64 _ _ (below_zero binary64 c.args.x (holds c.if-x-2.true))

pub returns : goal.returns
unfolding of_bits
returns c = rooted binary64 _ _ (neither_side binary64 c.args.x (fails c.if-x.false) (fails c.if-x-2.false))
