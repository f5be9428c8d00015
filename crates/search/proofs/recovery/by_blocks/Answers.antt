use Rattle.std.proofs.Common.{arith}
use Rattle.std.proofs.lemmas.List.{length-replicate}
use Rattle.search.proofs.recovery.by_blocks.Goals as goal

pub whole_as_slice-fill : goal.whole_as_slice-fill
whole_as_slice-fill g c = omega arith

pub shared_whole_as_front-with_table : goal.shared_whole_as_front-with_table
shared_whole_as_front-with_table g c = (simp length-replicate at c.in_ok-n.ensures.1, omega arith)
