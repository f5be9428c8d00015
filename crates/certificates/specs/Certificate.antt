-- The certificate for x: the verdict, and the worst figures, which are separate definitions over the same rows.
use Rattle.std.specs.Prelude.{Bool, ◌&&◌, cond, Option, Some, None, List, Float}
use Rattle.std.specs.Float.Ieee.{le}
use Rattle.std.specs.Float.Ieee.Scale.{finite}
use Rattle.number.specs.Leaves.{maximum}
use Rattle.number.specs.Doubles.{zero}
use Rattle.rows.specs.Rows.{Row, fold, all}
use Rattle.rows.specs.Row.{empty, normalized, raw, raw_normalized, admits}
use Rattle.limits.specs.Bounds.{lower, upper}
use Rattle.limits.specs.declared.request.Request.{Request}
use Rattle.certificates.specs.declared.certificate.Figures.{Figures}

-- "lower ≤ x ≤ upper", x finite besides, and every row admits x
unfoldable pub between : Request → Float → Bool
between q x = finite x && (le (lower q) x && le x (upper q))

unfoldable pub passes : Request → List Row → Float → Bool
passes q rows x = between q x && all (admits q.tolerances.feas q.a_prev x) rows

-- "The worst figures start at +0: one is the maximum of first and third over the rows, one of the second." An empty row has none.
unfoldable pub worse_normalized : Float → Float → Float → Row → Float
worse_normalized a x worst w = cond (empty w) worst (maximum (maximum worst (normalized a x w)) (raw_normalized a x w))

unfoldable pub worse_raw : Float → Float → Float → Row → Float
worse_raw a x worst w = cond (empty w) worst (maximum worst (raw a x w))

abbrev pub worst_normalized : Request → List Row → Float → Float
worst_normalized q rows x = fold (worse_normalized q.a_prev x) zero rows

abbrev pub worst_raw : Request → List Row → Float → Float
worst_raw q rows x = fold (worse_raw q.a_prev x) zero rows

abbrev pub figures : Float → Float → Figures
figures n r = record { worst_normalized = n; worst_raw = r }

-- none where the speed does not pass
abbrev pub Certificate : Type 0
Certificate = Option Figures

unfoldable pub certificate : Request → List Row → Float → Certificate
certificate q rows x = cond (passes q rows x) (Some (figures (worst_normalized q rows x) (worst_raw q rows x))) None
