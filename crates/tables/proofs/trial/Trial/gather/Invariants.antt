use Rattle.std.proofs.Common.{◌≡◌, drop}
use Rattle.rows.specs.Rows.{fold}
use Rattle.tables.specs.ByBlocks.{gathered_block}
use Rattle.tables.proofs.trial.Trial.gather.Given as goal

abbrev pub invariant-loop-b : goal.invariant-loop-b
invariant-loop-b l = let f = gathered_block l.self.tol in fold f l.g (drop l.b-index l.self.table.now) ≡ fold f l.initial.g l.self.table.now
