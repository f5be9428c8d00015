use Rattle.std.proofs.Common.{arith}
use Rattle.std.proofs.lemmas.List.{take_more_set}
use Rattle.tables.proofs.filling.enter.Goals as goal

pub returns-in-Some : goal.returns-in-Some
returns-in-Some c = (rw c.in-Some.is (take_more_set c.args.table.now c.args.n c.in-Some.b c.requires), omega arith)
