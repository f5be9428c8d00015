-- The whole recovery: refusals 1 to 6 in 01's order, then the cap and the search.
use Rattle.std.specs.Prelude.{ℕ, Bool, not, ◌&&◌, Err, List, Float}
use Rattle.std.specs.Ordering.{is_ge, is_le}
use Rattle.std.specs.Float.Ieee.{lt, is_nan}
use Rattle.std.specs.Float.Ieee.Scale.{finite}
use Rattle.number.specs.Doubles.{zero}
use Rattle.refusals.specs.Refusals.{unless, ◌or◌}
use Rattle.refusals.specs.Outcome.{answered}
use Rattle.rows.specs.Rows.{rows_of, whole_rows}
use Rattle.rows.specs.Row.{rows_no}
use Rattle.limits.specs.Bounds.{lower_end, upper_end, lower, upper}
use Rattle.limits.specs.declared.request.Tolerances.{Tolerances}
use Rattle.limits.specs.declared.request.Request.{Request}
use Rattle.search.specs.Cap.{with_cap}
use Rattle.search.specs.Answer.{Answer}
use Rattle.topp2_ra.specs.Tolerant.{approx_order}

-- 2: "a tolerance not finite or negative; a_prev or a previous interval end not finite; a current end or path cap NaN"
unfoldable pub tolerance : Float → Bool
tolerance t = finite t && not (lt t zero)

unfoldable pub tolerances_good : Tolerances → Bool
tolerances_good t = tolerance t.feas && (tolerance t.abs && tolerance t.rel)

unfoldable pub none_nan : Float → Float → Float → Float → Bool
none_nan a b c d = not (is_nan a) && (not (is_nan b) && (not (is_nan c) && not (is_nan d)))

unfoldable pub inputs_good : Request → Bool
inputs_good q =
    tolerances_good q.tolerances
    && ((finite q.a_prev && (finite q.prev.interval.lower && finite q.prev.interval.upper))
    && none_nan q.curr.interval.lower q.curr.interval.upper q.prev.cap q.curr.cap)

-- "a_prev must by tolerant comparison be neither less than its lower nor greater than its upper"
unfoldable pub inside_previous : Request → Float → Float → Bool
inside_previous q low high =
    is_ge (approx_order q.a_prev low q.tolerances.abs q.tolerances.rel)
    && is_le (approx_order q.a_prev high q.tolerances.abs q.tolerances.rel)

-- 3: "previous lower or upper not finite, or a_prev outside"
unfoldable pub previous_good : Request → Bool
previous_good q =
    let low = lower_end q.prev in
    let high = upper_end q.prev in
    finite low && (finite high && inside_previous q low high)

-- 4: "lower or upper not finite, or lower > upper"
unfoldable pub current_good : Request → Bool
current_good q = finite (lower q) && (finite (upper q) && not (lt (upper q) (lower q)))

-- 1 to 4, then 5 and 6 of the rows
unfoldable pub request_no : Request → List Float → ℕ
request_no q l =
    unless (whole_rows l) 1
    or unless (inputs_good q) 2
    or unless (previous_good q) 3
    or unless (current_good q) 4

abbrev pub recovery_no : Request → List Float → ℕ
recovery_no q l = request_no q l or rows_no q.tolerances.feas (rows_of l)

unfoldable pub recovered : Request → List Float → Answer
recovered q l = answered (with_cap q (rows_of l)) Err (recovery_no q l)
