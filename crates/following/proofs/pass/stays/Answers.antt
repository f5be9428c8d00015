use Rattle.following.proofs.pass.stays.Goals as goal

pub returns-then-w-x : goal.returns-then-w-x
returns-then-w-x c = rw c.if-w-x.true
