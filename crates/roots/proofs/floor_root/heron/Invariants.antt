use Prim.Native.Nat.{◌+◌, ◌*◌, ◌^◌, ◌<◌}
use Rattle.roots.proofs.floor_root.heron.Given as goal

-- The invariant: a round lies no lower than the root. The measure is the number itself, which falls while it is above the root.
abbrev pub invariant-loop-s : goal.invariant-loop-s
invariant-loop-s l = (l.n < (l.s + 1) * (l.s + 1)) × (l.s < 2 ^ 32)

abbrev pub decreases-loop-s : goal.decreases-loop-s
decreases-loop-s l = l.s
