use Rattle.std.proofs.Common.{◌≡◌, ◌*◌, ◌≤◌, drop, take}
use Rattle.refusals.specs.Refusal.{number_in}
use Rattle.rows.specs.Rows.{rows_of, fold}
use Rattle.byte_lists.specs.Bytes.{doubles_of}
use Rattle.tables.specs.Findings.{start, found_row}
use Rattle.tables.proofs.Finding.{so_far}
use Rattle.tables.proofs.filling.fill_rows.Given as goal

abbrev pub invariant-loop-k : goal.invariant-loop-k
invariant-loop-k l = record {
  count : l.n ≤ l.k;
  found :
      let f = found_row l.tol l.a in
      fold f (so_far (take l.n l.table) (number_in l.met)) (rows_of (drop (3 * l.k) (doubles_of l.rows))) ≡ fold f start (rows_of (doubles_of l.rows));
}
