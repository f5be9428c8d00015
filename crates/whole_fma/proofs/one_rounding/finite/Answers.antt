use Rattle.std.proofs.Common.{◌≡◌, ℕ, ◌+◌, ◌-◌, ◌*◌, ◌^◌, ◌<◌, false, ◌∙◌, le_of_eq, lt_of_le_of_lt, arith}
use lib.Ieee.{binary64, unlike, of_bits}
use Rattle.rounding.specs.Packing.{significand, exponent}
use Rattle.operands.specs.SignAndSize.{is_special, sign_bit, magnitude}
use Rattle.whole_fma.specs.TwoLimbs.{whole}
use Rattle.operands.proofs.Operands.{digits, exponent_small}
use Rattle.whole_fma.proofs.InWindows.{code_windows, code_sum}
use Rattle.whole_fma.proofs.Windowed.{below_sign, steps_alike}
use Rattle.whole_fma.proofs.one_rounding.finite.Goals as goal

-- the parts of a pattern that is not special
module _ (b m k : ℕ) (B : b < 2 ^ 64) (S : is_special (of_bits binary64 b) ≡ false) (e : (m ≡ significand (magnitude b)) × (k ≡ exponent (magnitude b))) where
  m_small : m < 2 ^ 53
  m_small = lt_of_le_of_lt (le_of_eq e.0) (digits b B S).1

  k_small : k < 2099
  k_small = lt_of_le_of_lt (le_of_eq e.1) (exponent_small b B S)

larger : (i j k : ℕ) → k ≡ i + (j - i) → i < 10000 → j < 10000 → k < 2 ^ 32
larger i j k e I J = omega arith

pub overflow_mul-of : goal.overflow_mul-of
overflow_mul-of c =
    let x = c.split-of.result.x in
    record { fits = omega (arith, m_small c.args.a x.m x.k c.ranges.a.fits c.requires.0 c.split-of.ensures.0) }

pub overflow_mul-of-2 : goal.overflow_mul-of-2
overflow_mul-of-2 c =
    let y = c.split-of.result.y in
    record { fits = omega (arith, m_small c.args.b y.m y.k c.ranges.b.fits c.requires.1 c.split-of.ensures.1) }

pub overflow_add-of : goal.overflow_add-of
overflow_add-of c =
    let o = c.split-of.result in
    let x = k_small c.args.a o.x.m o.x.k c.ranges.a.fits c.requires.0 c.split-of.ensures.0 in
    let y = k_small c.args.b o.y.m o.y.k c.ranges.b.fits c.requires.1 c.split-of.ensures.1 in
    record { fits = omega (arith, x, y) }

pub overflow_add-of-2 : goal.overflow_add-of-2
overflow_add-of-2 c =
    let o = c.split-of.result in
    let x = k_small c.args.a o.x.m o.x.k c.ranges.a.fits c.requires.0 c.split-of.ensures.0 in
    let y = k_small c.args.b o.y.m o.y.k c.ranges.b.fits c.requires.1 c.split-of.ensures.1 in
    record { fits = omega (arith, x, y) }

pub overflow_mul-of-3 : goal.overflow_mul-of-3
overflow_mul-of-3 c =
    let z = c.split-of.result.z in
    record { fits = omega (arith, m_small c.args.c z.m z.k c.ranges.c.fits c.requires.2 c.split-of.ensures.2) }

pub overflow_add-of-3 : goal.overflow_add-of-3
overflow_add-of-3 c =
    let z = c.split-of.result.z in
    record { fits = omega (arith, k_small c.args.c z.m z.k c.ranges.c.fits c.requires.2 c.split-of.ensures.2) }

pub joined-total-requires : goal.joined-total-requires
joined-total-requires c =
    let a = c.args in
    let r = c.ranges in
    let o = c.split-of.result in
    let xy = c.product-xy.result in
    let p = c.aligned-pair in
    let w = code_windows a.a a.b a.c r.a.fits r.b.fits r.c.fits c.requires o xy c.split-of.ensures c.product-xy.ensures in
    below_sign (unlike (sign_bit a.a) (sign_bit a.b)) (sign_bit a.c) (whole xy) (o.x.k + o.y.k + 126) (o.z.m * 512) (o.z.k + 1200) w
    p.result.a p.result.b p.result.k p.ensures

pub narrow-r-requires : goal.narrow-r-requires
narrow-r-requires c =
    let o = c.split-of.result in
    let x = k_small c.args.a o.x.m o.x.k c.ranges.a.fits c.requires.0 c.split-of.ensures.0 in
    let y = k_small c.args.b o.y.m o.y.k c.ranges.b.fits c.requires.1 c.split-of.ensures.1 in
    let z = k_small c.args.c o.z.m o.z.k c.ranges.c.fits c.requires.2 c.split-of.ensures.2 in
    larger (o.x.k + o.y.k + 126) (o.z.k + 1200) c.aligned-pair.result.k c.aligned-pair.ensures.2 (omega (arith, x, y)) (omega (arith, z))

pub returns : goal.returns
returns c =
    let a = c.args in
    let r = c.ranges in
    let o = c.split-of.result in
    let xy = c.product-xy.result in
    let p = c.aligned-pair in
    let t = c.joined-total in
    let n = c.narrow-r in
    let w = code_windows a.a a.b a.c r.a.fits r.b.fits r.c.fits c.requires o xy c.split-of.ensures c.product-xy.ensures in
    c.rounded.ensures
    ∙ steps_alike (unlike (sign_bit a.a) (sign_bit a.b)) (sign_bit a.c) (whole xy) (o.x.k + o.y.k + 126) (o.z.m * 512) (o.z.k + 1200) w
    p.result.a p.result.b p.result.k p.ensures t.result.neg t.result.n n.result.m n.result.k (omega arith, omega arith) t.ensures n.ensures
    ∙ code_sum a.a a.b a.c r.a.fits r.b.fits r.c.fits c.requires o xy c.split-of.ensures c.product-xy.ensures
