-- What inner functions answer after a cap that failed, by the blocks of the table.
use Rattle.std.specs.Prelude.{ℕ, ◌+◌, Bool, ◌||◌, cond, Some, None, Ok, Err, List, Float}
use Rattle.std.specs.Float.Ieee.{eq}
use Rattle.number.specs.Doubles.{zero}
use Rattle.rows.specs.declared.block.Block.{Block}
use Rattle.limits.specs.Bounds.{span_of}
use Rattle.limits.specs.declared.request.Request.{Request}
use Rattle.limits.specs.declared.projection.Span.{Span}
use Rattle.certificates.specs.Certificate.{Certificate}
use Rattle.tables.specs.Findings.{Finding, found}
use Rattle.tables.specs.ByBlocks.{certificate_on, gathered}
use Rattle.tables.specs.declared.projection.Gathered.{Gathered}
use Rattle.search.specs.Answer.{Answer}
use Rattle.search.specs.Search.{Asked, Ends, middle, stops, halvings, searched}
use Rattle.search.specs.declared.halving.Sides.{Sides}
use Rattle.search.specs.declared.neighbours.Near.{Near}
use Rattle.search.specs.declared.neighbours.Near.TheVariants.{Found, ToMiddle}

-- the neighbours: how many were tried before the middle
abbrev pub tried_before : Near → ℕ
tried_before (Found c) = 0
tried_before (ToMiddle t) = t

-- ---- the halvings without figures
-- `stops`, of the ends
unfoldable pub meet : Sides → Bool
meet s = eq (middle s.passing s.rejected) s.passing || eq (middle s.passing s.rejected) s.rejected

-- `replaced`, by the verdict
unfoldable pub moved : Sides → Float → Bool → Sides
moved s m passes =
    cond passes
    (record { passing = m; rejected = s.rejected; tried = s.tried + 1 })
    (record { passing = s.passing; rejected = m; tried = s.tried + 1 })

unfoldable pub halved_sides : (Float → Bool) → Sides → Sides
halved_sides passes s = let m = middle s.passing s.rejected in moved s m (passes m)

-- the figures of a certificate
abbrev pub normalized_in : Certificate → Float
normalized_in (Some f) = f.worst_normalized
normalized_in None = zero

abbrev pub raw_in : Certificate → Float
raw_in (Some f) = f.worst_raw
raw_in None = zero

-- the ends with the figures of the passing one
abbrev pub ends_on : Asked → Sides → Ends
ends_on cert s = record {
  passing = s.passing;
  worst_normalized = normalized_in (cert s.passing);
  worst_raw = raw_in (cert s.passing);
  rejected = s.rejected;
  tried = s.tried;
}

abbrev pub halved_all : Asked → Sides → Ends
halved_all cert s = halvings cert 64 (stops (ends_on cert s)) (ends_on cert s)

-- ---- the table
-- refusals 7 and 8, of rows, come before the search
unfoldable pub after_gathered : Float → Span → List Block → Gathered → Answer
after_gathered tol bounds bs g = cond g.unreachable (Err 7) (cond g.flat (Err 8) (searched (certificate_on tol bounds bs) g.span))

abbrev pub with_table : Float → Span → List Block → Answer
with_table tol bounds bs = after_gathered tol bounds bs (gathered tol bounds bs)

abbrev pub from_finding : Float → Span → Finding → Answer
from_finding tol bounds (Ok bs) = with_table tol bounds bs
from_finding tol bounds (Err r) = Err r

-- by a table of n blocks
abbrev pub by_table : Request → List Float → ℕ → Answer
by_table q l n = from_finding q.tolerances.feas (span_of q) (found q.tolerances.feas q.a_prev l n)
