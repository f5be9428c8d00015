use Prim.Native.Nat.{◌^◌}
use native.Mathlib.Omega.{arith}
use Rattle.rounding.proofs.Halves.{rest_is}
use Rattle.roots.proofs.Shifts.{code_cut, no_more}
use Rattle.roots.proofs.hypot.cut.Goals as goal

pub overflow_sub-result-2 : goal.overflow_sub-result-2
overflow_sub-result-2 c = no_more c.args.w.lo c.args.s

pub returns : goal.returns
returns c =
    (code_cut c.args.w.hi c.args.w.lo c.args.s (omega arith) c.requires, rest_is (2 ^ 64) c.args.w.lo c.args.s (omega arith))
