use Rattle.std.proofs.Common.{◌≡◌, drop}
use Rattle.rows.specs.Rows.{all}
use Rattle.tables.specs.ByBlocks.{fits_block}
use Rattle.tables.proofs.verdict.all_fit.Given as goal

abbrev pub invariant-loop-b : goal.invariant-loop-b
invariant-loop-b l = let p = fits_block l.tol l.x in all p (drop l.b-index l.table) ≡ all p l.table
