-- The certificate as it is worked out, one row after another: what inner functions promise.
use Rattle.std.specs.Prelude.{Bool, ◌&&◌, cond, Option, Some, None, Ok, Err, Float}
use Rattle.std.specs.Float.Ieee.{lt, le}
use Rattle.std.specs.Float.Ieee.Scale.{finite}
use Rattle.rows.specs.Rows.{Row}
use Rattle.rows.specs.Reading.{Reading, reading_of}
use Rattle.rows.specs.Judging.{judged}
use Rattle.rows.specs.declared.judging.Residuals.{Residuals}
use Rattle.limits.specs.declared.projection.Span.{Span}
use Rattle.certificates.specs.Certificate.{figures, Certificate}
use Rattle.certificates.specs.declared.certificate.Figures.{Figures}

-- between two ends: `between`, of the bounds
unfoldable pub inside : Span → Float → Bool
inside s x = finite x && (le s.low x && le x s.high)

-- the worst figure so far against one more: `maximum`, of what starts at +0
unfoldable pub worse : Float → Float → Float
worse w x = cond (lt w x) x w

-- the figures after one more row that admits the speed
unfoldable pub worsened : Figures → Residuals → Figures
worsened f r = figures (worse (worse f.worst_normalized r.normalized) r.raw_normalized) (worse f.worst_raw r.raw)

-- one row more, counted in the certificate so far
unfoldable pub counted : Certificate → Option Residuals → Certificate
counted None r = None
counted (Some f) None = None
counted (Some f) (Some r) = Some (worsened f r)

unfoldable pub counted_reading : Float → Float → Certificate → Reading → Certificate
counted_reading tol x c (Err n) = None
counted_reading tol x c (Ok None) = c
counted_reading tol x c (Ok (Some b)) = counted c (judged tol x b)

abbrev pub counted_row : Float → Float → Float → Certificate → Row → Certificate
counted_row tol a x c w = counted_reading tol x c (reading_of tol a w)
