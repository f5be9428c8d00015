-- The cap, and the search after a cap that failed.
use Rattle.std.specs.Prelude.{◌/◌, ◌||◌, cond, Some, None, Ok, Err, List, leb, length, Float}
use Rattle.refusals.specs.Most.{most_rows}
use Rattle.refusals.specs.Outcome.{answered}
use Rattle.rows.specs.Rows.{Row, rows_of, any}
use Rattle.rows.specs.Row.{rows_no}
use Rattle.limits.specs.Bounds.{upper}
use Rattle.limits.specs.Projection.{unreachable, flat, projected}
use Rattle.limits.specs.declared.request.Request.{Request}
use Rattle.certificates.specs.Certificate.{passes, Certificate, certificate}
use Rattle.search.specs.Answer.{Answer, certified}
use Rattle.search.specs.Search.{searched}

-- refusals 7 and 8, of rows, come before the search
unfoldable pub after_cap : Request → List Row → Certificate → Answer
after_cap q rows (Some f) = Ok (certified (upper q) f.worst_normalized f.worst_raw 1)
after_cap q rows None =
    cond (any (unreachable q.tolerances.feas q.a_prev) rows) (Err 7)
    (cond (any (flat q.tolerances.feas q.a_prev) rows) (Err 8) (searched (certificate q rows) (projected q rows)))

unfoldable pub with_cap : Request → List Row → Answer
with_cap q rows = after_cap q rows (certificate q rows (upper q))

-- the rows' own refusals come before the cap: 5 and 6
unfoldable pub of_rows : Request → List Row → Answer
of_rows q rows = answered (with_cap q rows) Err (rows_no q.tolerances.feas rows)

-- a list of more rows than the table has room for, which refusal 1 keeps away, is answered by its cap alone
unfoldable pub with_rows : Request → List Float → Answer
with_rows q l = cond (leb (length l / 3) most_rows || passes q (rows_of l) (upper q)) (of_rows q (rows_of l)) (Err 5)
