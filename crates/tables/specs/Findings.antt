-- The pass over the rows that fills the table, and finds refusals 5 and 6 on its way.
use Rattle.std.specs.Prelude.{ℕ, zero, suc, ◌/◌, min, cond, Result, Ok, Err, List, [], ◌++◌, leb, length, take, Float}
use Rattle.std.specs.Option.{option_to_list}
use Rattle.rows.specs.Rows.{Row, rows_of, any}
use Rattle.rows.specs.Row.{unfit, unmeetable}
use Rattle.rows.specs.Reading.{Reading, reading_of}
use Rattle.rows.specs.declared.block.Block.{Block}
use Rattle.tables.specs.Table.{blocks}

-- what the rows are: refused, with 5 for an unfit row before all, or their blocks
abbrev pub Finding : Type 0
Finding = Result (List Block) ℕ

unfoldable pub found_of : Float → Float → List Row → Finding
found_of tol a rows = cond (any (unfit tol) rows) (Err 5) (cond (any unmeetable rows) (Err 6) (Ok (blocks tol a rows)))

-- a table of n blocks that has no room for a block for each row fits no rows
unfoldable pub found : Float → Float → List Float → ℕ → Finding
found tol a l n = cond (leb (length l / 3) n) (found_of tol a (rows_of l)) (Err 5)

-- what a count of blocks says of the table
abbrev pub found_in : List Block → Result ℕ ℕ → Finding
found_in l (Ok n) = Ok (take n l)
found_in l (Err r) = Err r

abbrev pub count_of : Result ℕ ℕ → ℕ
count_of (Ok n) = n
count_of (Err r) = 0

-- ---- the rows so far, one after another: what inner functions promise
abbrev pub start : Finding
start = Ok []

-- of two refusals, the first 0 for none, the smaller number
unfoldable pub sooner : ℕ → ℕ → ℕ
sooner zero r = r
sooner (suc s) r = min (suc s) r

unfoldable pub found_reading : Finding → Reading → Finding
found_reading (Ok bs) (Err r) = Err r
found_reading (Err s) (Err r) = Err (min s r)
found_reading (Ok bs) (Ok said) = Ok (bs ++ option_to_list said)
found_reading (Err s) (Ok said) = Err s

abbrev pub found_row : Float → Float → Finding → Row → Finding
found_row tol a s w = found_reading s (reading_of tol a w)
