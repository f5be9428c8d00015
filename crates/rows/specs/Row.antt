-- What one row says of the speed x, with the tolerance feas_tol, here tol, and the previous speed a_prev, here a. 01: "For a row whose norm,
-- hypot(coef_curr, coef_prev), is zero: rhs ≥ 0. For any other, with inv = 1/norm and raw_tol = feas_tol × max(|rhs|, 1), raw_tol and three residuals are
-- finite [..]. The first and third are at most feas_tol, the second at most raw_tol."
use Rattle.std.specs.Prelude.{ℕ, Bool, not, ◌&&◌, ◌||◌, cond, List, Float}
use Rattle.std.specs.Float.{binary64}
use Rattle.std.specs.Float.Ieee.{lt, le, eq}
use Rattle.std.specs.Float.Ieee.Scale.{finite}
use Rattle.number.specs.Leaves.{maximum, absolute}
use Rattle.number.specs.Doubles.{zero, one, ◌⊕◌, ◌⊖◌, ◌⊗◌, ◌⊘◌}
use Rattle.roots.specs.Hypot.{hypot_of}
use Rattle.refusals.specs.Refusals.{unless, ◌or◌}
use Rattle.rows.specs.Rows.{Row, any}

-- ---- what depends on the row and the tolerance alone
abbrev pub norm : Row → Float
norm w = hypot_of binary64 w.curr w.prev

abbrev pub empty : Row → Bool
empty w = eq (norm w) zero

abbrev pub inv : Row → Float
inv w = one ⊘ norm w

abbrev pub raw_tol : Float → Row → Float
raw_tol tol w = tol ⊗ maximum (absolute w.rhs) one

-- "every row number and norm is finite"
abbrev pub four_finite : Float → Float → Float → Float → Bool
four_finite x y z v = finite x && (finite y && (finite z && finite v))

unfoldable pub numbers_finite : Row → Bool
numbers_finite w = four_finite w.curr w.prev w.rhs (norm w)

-- ---- the three residuals
-- (coef_curr·inv)·x + (coef_prev·inv)·a_prev - rhs·inv
abbrev pub normalized : Float → Float → Row → Float
normalized a x w = (w.curr ⊗ inv w) ⊗ x ⊕ (w.prev ⊗ inv w) ⊗ a ⊖ w.rhs ⊗ inv w

-- coef_curr·x + coef_prev·a_prev - rhs
abbrev pub raw : Float → Float → Row → Float
raw a x w = w.curr ⊗ x ⊕ w.prev ⊗ a ⊖ w.rhs

-- raw/norm
abbrev pub raw_normalized : Float → Float → Row → Float
raw_normalized a x w = raw a x w ⊘ norm w

-- ---- the verdict of a row
-- raw_tol and three residuals: finite, the first and third at most feas_tol, the second at most raw_tol
unfoldable pub all_within : Float → Float → Float → Float → Float → Bool
all_within tol raw_tol first third second = four_finite raw_tol first third second && (le first tol && (le third tol && le second raw_tol))

unfoldable pub admits : Float → Float → Float → Row → Bool
admits tol a x w =
    numbers_finite w
    && cond (empty w) (le zero w.rhs) (all_within tol (raw_tol tol w) (normalized a x w) (raw_normalized a x w) (raw a x w))

-- ---- refusals 5 and 6
-- 5: "any row: a number not finite; norm not finite; norm not zero and 1/norm or raw_tol not finite"
unfoldable pub unfit : Float → Row → Bool
unfit tol w = not (numbers_finite w && (empty w || (finite (inv w) && finite (raw_tol tol w))))

-- 6: "any row with norm zero and rhs < 0"
unfoldable pub unmeetable : Row → Bool
unmeetable w = empty w && lt w.rhs zero

unfoldable pub rows_no : Float → List Row → ℕ
rows_no tol rows = unless (not (any (unfit tol) rows)) 5 or unless (not (any unmeetable rows)) 6
