use mathlib.Core.Path.{sym, ap, ◌∙◌}
use Prim.Native.Nat.{ℕ, ◌+◌, ◌-◌, ◌*◌, ◌^◌}
use native.Mathlib.Omega.{arith}
use mathlib.Core.Bool.{cond}
use lib.Dec.{lit<}
use lib.Count.{count_leading_zeros, leading_le, leading_top}
use lib.Ieee.{binary64, of_bits, round}
use Rattle.rounding.specs.Packing.{deep}
use Rattle.rounding.proofs.Pack.{packed}
use Rattle.rounding.proofs.Scaled.{nothing, few, code_past, code_normal, code_small}
use Rattle.rounding.proofs.packing.rounded.Goals as goal

pub returns-then-m-eq0 : goal.returns-then-m-eq0
returns-then-m-eq0 c =
    let a = c.args in
    c.signed.ensures
    ∙ packed binary64 a.neg (0 * 2 ^ a.k) (2 ^ deep) 0 11 0 (nothing a.k) (lit< tt)
    ∙ ap (λ (x : ℕ). round binary64 a.neg (x * 2 ^ a.k) (2 ^ deep)) (sym c.if-m-eq0.true)

pub overflow_cast-lz : goal.overflow_cast-lz
overflow_cast-lz c = record { fits = omega (arith, leading_le 64 c.args.m) }

pub overflow_shl-w : goal.overflow_shl-w
overflow_shl-w c =
    omega (arith, (leading_top 64 c.args.m (omega (arith, c.if-m-eq0.false)) c.ranges.m.fits).1)

pub overflow_add-base : goal.overflow_add-base
overflow_add-base c = record { fits = omega (arith, leading_le 64 c.args.m) }

pub returns-then-d-gt2045 : goal.returns-then-d-gt2045
returns-then-d-gt2045 c =
    c.signed-then-d-gt2045.ensures
    ∙ code_past c.args.neg c.args.m c.args.k c.ranges.m.fits
    c.if-m-eq0.false c.if-base-k.true c.if-d-gt2045.true

pub overflow_add-d : goal.overflow_add-d
overflow_add-d c =
    record { fits = omega (arith, c.near.ensures, few c.args.neg c.args.m c.args.k c.ranges.m.fits c.if-m-eq0.false 11 (lit< tt)) }

pub signed-requires-then-base-k : goal.signed-requires-then-base-k
signed-requires-then-base-k c =
    omega (arith, c.near.ensures, few c.args.neg c.args.m c.args.k c.ranges.m.fits c.if-m-eq0.false 11 (lit< tt))

pub returns-then-base-k : goal.returns-then-base-k
returns-then-base-k c =
    let d = c.args.k - (1315 + count_leading_zeros 64 c.args.m) in
    c.signed-then-base-k.ensures
    ∙ ap (λ (x : ℕ). of_bits binary64 (cond c.args.neg 0x8000_0000_0000_0000 0 + (d * 0x10_0000_0000_0000 + x))) c.near.ensures
    ∙ code_normal c.args.neg c.args.m c.args.k c.ranges.m.fits
    c.if-m-eq0.false c.if-base-k.true c.if-d-gt2045.false

pub overflow_add-base-2 : goal.overflow_add-base-2
overflow_add-base-2 c = record { fits = omega (arith, leading_le 64 c.args.m) }

pub signed-requires-2 : goal.signed-requires-2
signed-requires-2 c =
    let sh = 1315 + count_leading_zeros 64 c.args.m - c.args.k + 11 in
    omega (arith, c.near-2.ensures, few c.args.neg c.args.m c.args.k c.ranges.m.fits c.if-m-eq0.false sh (omega arith))

pub returns : goal.returns
returns c =
    c.signed-2.ensures
    ∙ ap (λ (x : ℕ). of_bits binary64 (cond c.args.neg 0x8000_0000_0000_0000 0 + x)) c.near-2.ensures
    ∙ code_small c.args.neg c.args.m c.args.k c.ranges.m.fits c.if-m-eq0.false c.if-base-k.false
