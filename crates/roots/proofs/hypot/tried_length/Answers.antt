use Rattle.roots.proofs.hypot.tried_length.Goals as goal

pub returns-in-Some : goal.returns-in-Some
returns-in-Some c = c.in-Some.ensures c.requires.0
