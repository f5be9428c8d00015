use Rattle.std.proofs.Common.{◌≡◌, drop, Some}
use Rattle.rows.specs.Rows.{fold}
use Rattle.tables.specs.ByBlocks.{counted_block}
use Rattle.tables.proofs.certificate.certify_rows.Given as goal

abbrev pub invariant-loop-b : goal.invariant-loop-b
invariant-loop-b l = let f = counted_block l.tol l.x in fold f (Some l.worst) (drop l.b-index l.table) ≡ fold f (Some l.initial.worst) l.table
