-- The table: a block for each row that is not empty.
use Rattle.std.specs.Prelude.{cond, List, [], ◌∷◌, Float}
use Rattle.rows.specs.Rows.{Row}
use Rattle.rows.specs.Row.{empty}
use Rattle.rows.specs.Reading.{block_of}
use Rattle.rows.specs.declared.block.Block.{Block}

-- an empty row says nothing of a speed
unfoldable pub blocks : Float → Float → List Row → List Block
blocks tol a [] = []
blocks tol a (w ∷ ws) = cond (empty w) (blocks tol a ws) (block_of tol a w ∷ blocks tol a ws)
