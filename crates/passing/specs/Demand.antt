-- Demand 3, and what else is promised of every answer of recovery, in the words that its definitions do not have.
use Rattle.std.specs.Prelude.{◌≡◌, ◌&&◌, ℕ, ◌%◌, ◌≤◌, T, length, Float}
use mathlib.Core.List.{List, Memᴰ, ◌++◌}
use Rattle.std.specs.Float.{binary64}
use Rattle.std.specs.Float.Ieee.{le, fits, of_bits}
use Rattle.rows.specs.Rows.{Row, rows_of, whole_rows}
use Rattle.limits.specs.Bounds.{upper}
use Rattle.limits.specs.Projection.{projected}
use Rattle.limits.specs.declared.request.Request.{Request}
use Rattle.certificates.specs.Certificate.{passes}
use Rattle.topp2_ra.specs.Recovery.{recovered}

-- each row of the one is a row of the other, bit for bit: "the same rows, in any order or number"
pub record SameRows (l m : List Float) : Type 0 where
  pub to : (w : Row) → Memᴰ w (rows_of l) → Memᴰ w (rows_of m)
  pub back : (w : Row) → Memᴰ w (rows_of m) → Memᴰ w (rows_of l)

-- the numbers that the cap and the lower bound are taken from are doubles, as every parameter of code is
pub record Doubles (q : Request) : Type 0 where
  pub lower_fits : T (fits binary64 q.curr.interval.lower)
  pub upper_fits : T (fits binary64 q.curr.interval.upper)
  pub cap_fits : T (fits binary64 q.curr.cap)

-- 2 ^ -1021
abbrev pub smallest : Float
smallest = of_bits binary64 0x0020000000000000

-- "the greatest passing double not above that end": x passes, is not above the projected upper end, and no passing double that is not above that end is above x
pub record Greatest (q : Request) (rows : List Row) (x : Float) : Type 0 where
  pub passing : T (passes q rows x)
  pub not_above : T (le x (projected q rows).high)
  pub greatest : (y : Float) → T (fits binary64 y) → T (passes q rows y) → T (le y (projected q rows).high) → T (le y x)

-- Demand 3 of a call with this request and these rows, which returned the number and, where that is 0, wrote the speed's pattern: a field to a sentence.
pub record Demanded (q : Request) (l : List Float) (number speed : ℕ) : Type 0 where
  -- "Passing doubles have no gap"
  pub no_gap : (x y z : Float) → T (le x y) → T (le y z) → T (passes q (rows_of l) x) → T (passes q (rows_of l) z) → T (passes q (rows_of l) y)
  -- "two lists joined pass exactly what both pass"
  pub join : (m : List Float) (x : Float) → length l % 3 ≡ 0 → passes q (rows_of (l ++ m)) x ≡ (passes q (rows_of l) x && passes q (rows_of m) x)
  -- "If two lists of at most 256 whole rows hold the same rows, in any order or number, recovery answers the same bits"
  pub row_law : (m : List Float) → T (whole_rows l) → T (whole_rows m) → SameRows l m → recovered q l ≡ recovered q m
  -- "If its speed isn't the cap and the projected upper end is at least 2^-1021, that speed is the greatest passing double not above that end"
  pub greatest : number ≡ 0 → (of_bits binary64 speed ≡ upper q → ⊥) → T (le smallest (projected q (rows_of l)).high) → Greatest q (rows_of l) (of_bits binary64 speed)

-- Besides: the speed passes, and "Candidates tried counts certificates asked: cap, neighbours, middle, halvings; 1 to 71."
pub record Sound (q : Request) (l : List Float) (number speed tried : ℕ) : Type 0 where
  pub passing : number ≡ 0 → T (passes q (rows_of l) (of_bits binary64 speed))
  pub tried_in : number ≡ 0 → (1 ≤ tried) × (tried ≤ 71)
