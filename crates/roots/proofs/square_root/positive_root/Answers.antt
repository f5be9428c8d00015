use mathlib.Core.Path.{sym, ap, ◌∙◌}
use Prim.Native.Nat.{ℕ, ◌+◌, ◌*◌, ◌/◌, ◌%◌, ◌^◌, ◌≤◌, ◌<◌}
use native.Mathlib.Omega.{arith}
use mathlib.Core.Bool.{false}
use lib.Dec.{lit<}
use lib.Ieee.{binary64, round}
use Rattle.number.proofs.Patterns.{size_at}
use Rattle.rounding.specs.Packing.{deep}
use Rattle.exact_roots.proofs.SqrtCases.{of_pattern}
use Rattle.exact_roots.proofs.Parted.{Parted, parted}
use Rattle.exact_roots.proofs.Sqrts.{placed_in, code_root}
use Rattle.roots.proofs.square_root.positive_root.Goals as goal

placed : (b m k : ℕ) → Parted b m k → 0 < b → (2 ^ 52 ≤ m * 2 ^ ((k + 1) % 2) % 2 ^ 64) × (m * 2 ^ ((k + 1) % 2) % 2 ^ 64 < 2 ^ 54)
placed b m k p s = placed_in (size_at binary64 b) m k p.value (p.full s) p.under

pub overflow_add-k : goal.overflow_add-k
overflow_add-k c =
    let u = c.unpacked-p in
    record { fits = omega (arith, (parted c.args.b u.result.m u.result.k c.requires.1 u.ensures).short) }

pub overflow_mul-p : goal.overflow_mul-p
overflow_mul-p c =
    let u = c.unpacked-p.result in
    let p = placed c.args.b u.m u.k (parted c.args.b u.m u.k c.requires.1 c.unpacked-p.ensures) c.requires.0 in
    record { fits = omega (arith, p.1) }

pub root-requires : goal.root-requires
root-requires c =
    let u = c.unpacked-p.result in
    let p = placed c.args.b u.m u.k (parted c.args.b u.m u.k c.requires.1 c.unpacked-p.ensures) c.requires.0 in
    (omega (arith, p.0), omega (arith, p.1), lit< tt, lit< tt)

pub returns : goal.returns
returns c =
    let m = c.unpacked-p.result.m in
    let k = c.unpacked-p.result.k in
    let b = c.args.b in
    let p = parted b m k c.requires.1 c.unpacked-p.ensures in
    c.rounded.ensures
    ∙ ap (λ (x : ℕ). round binary64 false (x * 2 ^ ((k + 1) / 2 + 1807)) (2 ^ deep)) c.root.ensures
    ∙ code_root (size_at binary64 b) m k p.value (p.full c.requires.0) p.under
    ∙ sym (of_pattern b c.requires.0 c.requires.1)
