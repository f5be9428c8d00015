use mathlib.Core.Path.{ap, ◌∙◌}
use Prim.Native.Nat.{ℕ, ◌+◌, ◌*◌, ◌^◌}
use native.Mathlib.Omega.{arith}
use Rattle.exact_roots.specs.CutRoot.{stick_more}
use Rattle.roots.proofs.Rounds.{root_in}
use Rattle.roots.proofs.floor_root.root.Goals as goal

pub longer-requires : goal.longer-requires
longer-requires c =
    let r = root_in c.args.n c.heron-s.result c.heron-s.ensures c.requires.0 c.requires.1 in
    (r.0, r.1, r.2, c.requires.2, c.requires.3)

pub returns : goal.returns
returns c =
    c.longer.ensures ∙ ap (λ (x : ℕ). stick_more (x * 2 ^ 48 + c.args.l) c.args.z) (omega (arith, c.heron-s.ensures.0))
