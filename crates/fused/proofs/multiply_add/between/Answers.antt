use Rattle.fused.proofs.multiply_add.between.Goals as goal

pub returns-then-a-p : goal.returns-then-a-p
returns-then-a-p c = rw c.if-a-p.true

pub returns-then-b-p : goal.returns-then-b-p
returns-then-b-p c = rw (c.if-a-p.false, c.if-b-p.true)

pub returns : goal.returns
returns c = rw (c.if-a-p.false, c.if-b-p.false)
