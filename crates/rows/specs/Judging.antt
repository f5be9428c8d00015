-- What a block says of the speed x: the residuals of its row, and whether they are in their tolerances.
use Rattle.std.specs.Prelude.{Bool, true, ◌&&◌, cond, Option, Some, None, Float}
use Rattle.std.specs.Float.{inf}
use Rattle.std.specs.Float.Ieee.{lt, le}
use Rattle.number.specs.Doubles.{◌⊕◌, ◌⊖◌, ◌⊗◌, ◌⊘◌}
use Rattle.rows.specs.declared.block.Block.{Block}
use Rattle.rows.specs.declared.judging.Residuals.{Residuals}

abbrev pub normalized_of : Float → Block → Float
normalized_of x b = b.incline ⊗ x ⊕ b.shift ⊖ b.bound

abbrev pub raw_of : Float → Block → Float
raw_of x b = b.curr ⊗ x ⊕ b.prev ⊖ b.rhs

abbrev pub raw_normalized_of : Float → Block → Float
raw_normalized_of x b = raw_of x b ⊘ b.norm

-- at most a finite tolerance, and finite; raw is finite where raw/norm is
unfoldable pub within : Float → Float → Bool
within y tol = lt (inf true) y && le y tol

unfoldable pub three_within : Float → Float → Float → Float → Float → Bool
three_within tol raw_tol first third second = within first tol && (within third tol && le second raw_tol)

abbrev pub residuals_of : Float → Block → Residuals
residuals_of x b = record { normalized = normalized_of x b; raw_normalized = raw_normalized_of x b; raw = raw_of x b }

-- the verdict: the residuals where the speed is admitted
unfoldable pub judged : Float → Float → Block → Option Residuals
judged tol x b =
    cond (three_within tol b.tol (normalized_of x b) (raw_normalized_of x b) (raw_of x b)) (Some (residuals_of x b)) None
