-- Certificate and projection by the blocks of the table.
use Rattle.std.specs.Prelude.{Bool, not, ◌&&◌, ◌||◌, cond, Some, None, is_some, List, Float}
use Rattle.std.specs.Float.Ieee.Scale.{finite}
use Rattle.number.specs.Doubles.{zero}
use Rattle.rows.specs.Rows.{fold, any, all}
use Rattle.rows.specs.Judging.{judged}
use Rattle.rows.specs.declared.block.Block.{Block}
use Rattle.limits.specs.Projection.{cut_by, flat_by, reach_of}
use Rattle.limits.specs.declared.projection.Span.{Span}
use Rattle.certificates.specs.RowByRow.{inside, counted}
use Rattle.certificates.specs.Certificate.{figures, Certificate}
use Rattle.tables.specs.declared.projection.Gathered.{Gathered}
use Rattle.tables.specs.declared.trial.Trial.{Trial}

-- ---- the certificate, with the bounds worked out
abbrev pub counted_block : Float → Float → Certificate → Block → Certificate
counted_block tol x s b = counted s (judged tol x b)

unfoldable pub certificate_on : Float → Span → List Block → Float → Certificate
certificate_on tol bounds bs x = cond (inside bounds x) (fold (counted_block tol x) (Some (figures zero zero)) bs) None

-- ---- its verdict alone
abbrev pub fits_block : Float → Float → Block → Bool
fits_block tol x b = is_some (judged tol x b)

unfoldable pub passes_on : Float → Span → List Block → Float → Bool
passes_on tol bounds bs x = inside bounds x && all (fits_block tol x) bs

-- ---- both by the record that the code passes on
abbrev pub certificate_by : Trial → Float → Certificate
certificate_by t = certificate_on t.tol t.bounds t.table.now

abbrev pub passes_by : Trial → Float → Bool
passes_by t = passes_on t.tol t.bounds t.table.now

-- ---- the projection
abbrev pub cut_by_block : Float → Span → Block → Span
cut_by_block tol s b = cut_by s b.incline (reach_of tol b)

-- the classes of refused rows
abbrev pub unreachable_block : Float → Block → Bool
unreachable_block tol b = not (finite (reach_of tol b))

abbrev pub flat_block : Float → Block → Bool
flat_block tol b = flat_by b.incline (reach_of tol b)

-- both classes, and what the rows leave of a span
unfoldable pub gathered : Float → Span → List Block → Gathered
gathered tol s bs = record { unreachable = any (unreachable_block tol) bs; flat = any (flat_block tol) bs; span = fold (cut_by_block tol) s bs }

-- one row more
unfoldable pub gathered_block : Float → Gathered → Block → Gathered
gathered_block tol g b = record { unreachable = g.unreachable || unreachable_block tol b; flat = g.flat || flat_block tol b; span = cut_by_block tol g.span b }
