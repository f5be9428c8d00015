use Rattle.std.proofs.Common.{◌*◌, ◌/◌, ◌%◌, ◌^◌, sym, ◌∙◌, le_refl, arith, lit<}
use mathlib.Core.Bool.{false≢true}
use lib.Ieee.{binary64, to_bits}
use lib.Ieee.Bits.{of_bits-to_bits}
use Rattle.number.proofs.Order.{holds}
use Rattle.near_roots.proofs.Tested.{lined_ge, code_is_root}
use Rattle.near_roots.proofs.square_root.is_root.Goals as goal

pub returns-then-c-k : goal.returns-then-c-k
returns-then-c-k c t = absurd (false≢true t)

pub is_nearest-requires : goal.is_nearest-requires
is_nearest-requires c =
    let r = c.fields-r in
    let p = c.fields-p in
    (lined_ge p.result.m _ (omega arith) (omega (arith, p.ensures.0)), omega (arith, r.ensures.0), omega arith, lit< tt)

pub returns : goal.returns
returns c t =
    let r = c.fields-r in
    let p = c.fields-p in
    let e = c.if-c-k.false in
    let b = c.args.b in
    let g = c.args.g in
    let n = p.result.m * 2048 / 2 ^ (b / 2 ^ 52 % 2) * 2 ^ 48 in
    let w = c.is_nearest.ensures t n (le_refl n) (omega arith) in
    sym (of_bits-to_bits binary64 g (holds c.well_formed.1.0.1))
    ∙ code_is_root b (to_bits binary64 g) c.requires.0 c.requires.1 p.result.m r.result.m p.ensures.0 r.ensures.0 e w
