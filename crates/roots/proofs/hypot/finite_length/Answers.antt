use mathlib.Core.Path.{◌≡◌, ap, ◌∙◌}
use Prim.Native.Nat.{ℕ, ◌+◌, ◌*◌, ◌^◌, ◌<◌, ◌≤◌}
use native.Mathlib.Omega.{arith}
use native.Mathlib.Nat.{le_of_lt}
use mathlib.Core.Bool.{false}
use lib.Ieee.{binary64, round}
use Rattle.rounding.specs.Packing.{deep, significand, exponent}
use Rattle.roots.specs.declared.hypot.Pair.{Pair}
use Rattle.rounding.proofs.Scaled.{no_nan}
use Rattle.exact_roots.proofs.Parted.{parted}
use Rattle.exact_roots.proofs.HypotCases.{code_zeros}
use Rattle.exact_roots.proofs.Lengths.{Both, lower, code_near, code_far}
use Rattle.roots.proofs.hypot.finite_length.Goals as goal

at : (a b : ℕ) (r : Pair) → b ≤ a → a < 0x7ff0_0000_0000_0000 → 0 < a
    → (r.p.m ≡ significand a) × (r.p.k ≡ exponent a) × (r.q.m ≡ significand b) × (r.q.k ≡ exponent b)
    → Both a b r.p.m r.p.k r.q.m r.q.k
at a b r o l s e = record {
  first = parted a r.p.m r.p.k l (e.0, e.1);
  second = parted b r.q.m r.q.k (omega arith) (e.2, e.3);
  some = s;
  ordered = o;
  below = l;
}

pub returns-then-a-eq0 : goal.returns-then-a-eq0
returns-then-a-eq0 c = code_zeros c.args.a c.args.b c.if-a-eq0.true c.requires.0

pub overflow_sub-d : goal.overflow_sub-d
overflow_sub-d c =
    let b = at c.args.a c.args.b c.split-both.result c.requires.0 c.requires.1 (omega arith) c.split-both.ensures in
    let r = c.split-both.result in
    lower c.args.a c.args.b r.p.m r.p.k r.q.m r.q.k b

pub float_from_bits-result : goal.float_from_bits-result
float_from_bits-result c = no_nan c.args.a (le_of_lt c.requires.1)

pub returns-then-d-gt26 : goal.returns-then-d-gt26
returns-then-d-gt26 c =
    let b = at c.args.a c.args.b c.split-both.result c.requires.0 c.requires.1 (omega arith) c.split-both.ensures in
    let r = c.split-both.result in
    let e = c.split-both.ensures in
    code_far c.args.a c.args.b r.p.m r.p.k r.q.m r.q.k b (e.0, e.1) c.if-d-gt26.true

pub overflow_mul-both : goal.overflow_mul-both
overflow_mul-both c =
    let b = at c.args.a c.args.b c.split-both.result c.requires.0 c.requires.1 (omega arith) c.split-both.ensures in
    record { fits = omega (arith, b.first.under) }

pub overflow_mul-both-2 : goal.overflow_mul-both-2
overflow_mul-both-2 c =
    let b = at c.args.a c.args.b c.split-both.result c.requires.0 c.requires.1 (omega arith) c.split-both.ensures in
    record { fits = omega (arith, b.second.under) }

pub sum_root-requires : goal.sum_root-requires
sum_root-requires c =
    let b = at c.args.a c.args.b c.split-both.result c.requires.0 c.requires.1 (omega arith) c.split-both.ensures in
    (omega (arith, b.first.full b.some), omega (arith, b.first.under), omega (arith, b.second.under), omega (arith, c.if-d-gt26.false))

pub overflow_add-both : goal.overflow_add-both
overflow_add-both c =
    let b = at c.args.a c.args.b c.split-both.result c.requires.0 c.requires.1 (omega arith) c.split-both.ensures in
    record { fits = omega (arith, b.first.short) }

pub returns : goal.returns
returns c =
    let b = at c.args.a c.args.b c.split-both.result c.requires.0 c.requires.1 (omega arith) c.split-both.ensures in
    let r = c.split-both.result in
    c.rounded.ensures
    ∙ ap (λ (x : ℕ). round binary64 false (x * 2 ^ (r.p.k + 1270)) (2 ^ deep)) c.sum_root.ensures
    ∙ code_near c.args.a c.args.b r.p.m r.p.k r.q.m r.q.k b
