use Rattle.std.proofs.Common.{◌≡◌, ◌*◌, drop, Some}
use Rattle.rows.specs.Rows.{rows_of, fold}
use Rattle.byte_lists.specs.Bytes.{doubles_of}
use Rattle.certificates.specs.RowByRow.{counted_row}
use Rattle.certificates.proofs.certificate.certify_rows.Given as goal

abbrev pub invariant-loop-k : goal.invariant-loop-k
invariant-loop-k l =
    let f = counted_row l.tol l.a l.x in fold f (Some l.worst) (rows_of (drop (3 * l.k) (doubles_of l.rows))) ≡ fold f (Some l.initial.worst) (rows_of (doubles_of l.rows))
