-- The projection: each row that is not empty cuts the speeds down to those at most, or at least, r/c.
use Rattle.std.specs.Prelude.{Bool, not, ◌&&◌, cond, List, Float}
use Rattle.std.specs.Float.Ieee.{lt}
use Rattle.std.specs.Float.Ieee.Scale.{finite}
use Rattle.number.specs.Leaves.{minimum, maximum}
use Rattle.number.specs.Doubles.{zero, one, ◌⊕◌, ◌⊖◌, ◌⊗◌, ◌⊘◌}
use Rattle.rows.specs.Rows.{Row, fold}
use Rattle.rows.specs.Row.{empty, inv, raw_tol}
use Rattle.rows.specs.declared.block.Block.{Block}
use Rattle.limits.specs.Bounds.{lower, upper}
use Rattle.limits.specs.declared.request.Request.{Request}
use Rattle.limits.specs.declared.projection.Span.{Span}

-- r = rhs·inv + min(feas_tol, raw_tol·inv) - (coef_prev·inv)·a_prev, and c = coef_curr·inv
unfoldable pub reach : Float → Float → Row → Float
reach tol a w = w.rhs ⊗ inv w ⊕ minimum tol (raw_tol tol w ⊗ inv w) ⊖ (w.prev ⊗ inv w) ⊗ a

unfoldable pub incline : Row → Float
incline w = w.curr ⊗ inv w

-- "for c positive the projected upper end is lowered to r/c, for negative the projected lower end raised to r/c"
unfoldable pub cut_by : Span → Float → Float → Span
cut_by s c r =
    cond (lt zero c) (record { low = s.low; high = minimum s.high (r ⊘ c) })
    (cond (lt c zero) (record { low = maximum s.low (r ⊘ c); high = s.high }) s)

unfoldable pub narrowed : Float → Float → Span → Row → Span
narrowed tol a s w = cond (empty w) s (cut_by s (incline w) (reach tol a w))

abbrev pub projected : Request → List Row → Span
projected q rows = fold (narrowed q.tolerances.feas q.a_prev) (record { low = lower q; high = upper q }) rows

-- refusal 7: r not finite; refusal 8, of a row: c zero and r < 0
unfoldable pub unreachable : Float → Float → Row → Bool
unreachable tol a w = not (empty w) && not (finite (reach tol a w))

unfoldable pub flat_by : Float → Float → Bool
flat_by c r = not (lt zero c) && (not (lt c zero) && lt r zero)

unfoldable pub flat : Float → Float → Row → Bool
flat tol a w = not (empty w) && flat_by (incline w) (reach tol a w)

-- r of a row, read off its block
abbrev pub reach_of : Float → Block → Float
reach_of tol b = b.bound ⊕ minimum tol (b.tol ⊗ (one ⊘ b.norm)) ⊖ b.shift
