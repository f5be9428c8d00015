use lib.Ieee.{of_bits}
use Rattle.exact_roots.proofs.HypotCases.{code_infinite, code_infinite_second, code_nan}
use Rattle.roots.proofs.hypot.ordered.Goals as goal
use Rattle.roots.proofs.hypot.ordered.Goals.{then-a-eq9218868437227405312-via-then-a-eq9218868437227405312, then-a-eq9218868437227405312-via-else-a-eq9218868437227405312+then-b-eq9218868437227405312}

pub returns-then-a-eq9218868437227405312 : goal.returns-then-a-eq9218868437227405312
returns-then-a-eq9218868437227405312 c =
    elim c.then-a-eq9218868437227405312.branch [
      | then-a-eq9218868437227405312-via-then-a-eq9218868437227405312 w ↦ code_infinite c.args.a c.args.b w.if-a-eq9218868437227405312.true
      | then-a-eq9218868437227405312-via-else-a-eq9218868437227405312+then-b-eq9218868437227405312 w ↦ code_infinite_second c.args.a c.args.b w.if-b-eq9218868437227405312.true
    ]

pub returns : goal.returns
unfolding of_bits
returns c =
    code_nan c.args.a c.args.b c.if-a-lt9218868437227405312.false c.if-a-eq9218868437227405312.false c.if-b-eq9218868437227405312.false c.requires.1 c.requires.0
