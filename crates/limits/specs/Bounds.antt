-- The bounds of a station. 01: "lower = max(current lower, +0); upper, the cap, = min(current upper, current path cap). For the previous station likewise".
use Rattle.std.specs.Prelude.{Float}
use Rattle.number.specs.Leaves.{minimum, maximum}
use Rattle.number.specs.Doubles.{zero}
use Rattle.limits.specs.declared.request.Station.{Station}
use Rattle.limits.specs.declared.request.Request.{Request}
use Rattle.limits.specs.declared.projection.Span.{Span}

abbrev pub lower_end : Station → Float
lower_end b = maximum b.interval.lower zero

abbrev pub upper_end : Station → Float
upper_end b = minimum b.interval.upper b.cap

-- the current station's
abbrev pub lower : Request → Float
lower q = lower_end q.curr

abbrev pub upper : Request → Float
upper q = upper_end q.curr

-- both, before any row cuts them down
abbrev pub span_of : Request → Span
span_of q = record { low = lower q; high = upper q }
