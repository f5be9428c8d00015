use Rattle.following.proofs.interval.turned.Goals as goal

pub returns-then-k-old : goal.returns-then-k-old
returns-then-k-old c = rw c.if-k-old.true c.requires.1
