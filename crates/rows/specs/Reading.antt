-- A row as it is read, before any speed is tried: refused, silent, or the terms of its residuals that depend on no speed.
use Rattle.std.specs.Prelude.{ℕ, cond, Option, Some, None, Result, Ok, Err, Float}
use Rattle.number.specs.Doubles.{◌⊗◌}
use Rattle.rows.specs.Rows.{Row}
use Rattle.rows.specs.Row.{norm, empty, inv, raw_tol, unfit, unmeetable}
use Rattle.rows.specs.declared.block.Block.{Block}

unfoldable pub block_of : Float → Float → Row → Block
block_of tol a w = record {
  incline = w.curr ⊗ inv w;
  shift = (w.prev ⊗ inv w) ⊗ a;
  bound = w.rhs ⊗ inv w;
  curr = w.curr;
  prev = w.prev ⊗ a;
  rhs = w.rhs;
  norm = norm w;
  tol = raw_tol tol w;
}

-- refused with 5 or 6, or silent, or a block
abbrev pub Reading : Type 0
Reading = Result (Option Block) ℕ

-- an empty row that can be met says nothing of a speed
unfoldable pub reading_of : Float → Float → Row → Reading
reading_of tol a w = cond (unfit tol w) (Err 5) (cond (unmeetable w) (Err 6) (cond (empty w) (Ok None) (Ok (Some (block_of tol a w)))))
