use mathlib.Core.Path.{ap₂, ◌∙◌}
use Prim.Native.Nat.{ℕ, ◌%◌, ◌^◌}
use native.Mathlib.Omega.{arith}
use lib.Ieee.{binary64, of_bits}
use Rattle.number.proofs.Order.{holds}
use Rattle.roots.specs.Hypot.{hypot_of}
use Rattle.exact_roots.proofs.HypotCases.{code_unsigned, sorted_in, code_sorted}
use Rattle.roots.proofs.hypot.any_length.Goals as goal

pub ordered-requires : goal.ordered-requires
ordered-requires c =
    let p = c.pattern_of-a in
    let q = c.pattern_of-b in
    sorted_in (p.result % 2 ^ 63) (q.result % 2 ^ 63) c.max.result c.min.result (c.max.ensures, c.min.ensures) (omega arith) (omega arith)

pub returns : goal.returns
returns c =
    let p = c.pattern_of-a in
    let q = c.pattern_of-b in
    c.ordered.ensures
    ∙ code_sorted (p.result % 2 ^ 63) (q.result % 2 ^ 63) c.max.result c.min.result (c.max.ensures, c.min.ensures)
    ∙ ap₂ (λ (a b : ℕ). hypot_of binary64 (of_bits binary64 (a % 2 ^ 63)) (of_bits binary64 (b % 2 ^ 63))) p.ensures q.ensures
    ∙ code_unsigned c.args.x c.args.y (holds c.well_formed.0.1) (holds c.well_formed.1.0.1)
