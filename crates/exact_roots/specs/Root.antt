-- The square root. 01: "plus and minus zero and plus infinity give themselves; other negatives and NaN give NaN; else the nearest."
use Rattle.std.specs.Prelude.{ℕ, zero, suc, ◌+◌, ◌-◌, ◌*◌, ◌/◌, ◌^◌, min, ◌≡◌, true, false, cond, T, leb, Float}
use Rattle.std.specs.Float.{nan, inf, fin, Format}
use Rattle.std.specs.Float.Ieee.{low, size, round}
use Rattle.std.specs.Float.Ieee.Positive.{positive}
use Rattle.number.specs.Units.{units_of}
use Rattle.nearness.specs.Nearness.{Size, root_of, Nearest, OnlyNearest}

-- The whole part of n's root, for an n of at most k digits in base 4: twice that of n / 4, or one more.
unfoldable pub root_in : ℕ → ℕ → ℕ
root_in zero n = zero
root_in (suc k) n = let r = 2 * root_in k (n / 4) in r + cond (leb ((r + 1) * (r + 1)) n) 1 0

-- the whole part of n's root
unfoldable pub isqrt : ℕ → ℕ
isqrt n = root_in (size n) n

-- twice the whole part of n's root, and one more where n is no square
unfoldable pub stick_root : ℕ → ℕ
stick_root n = let r = isqrt n in 2 * r + min 1 (n - r * r)

-- The value of f nearest to the root of n square units. The root is taken in half units: the points half way between two values are whole there,
-- and the last digit says on which side of one it lies.
unfoldable pub root_nearest : Format → ℕ → Float
root_nearest f n = round f false (stick_root (4 * n)) (4 * 2 ^ low f)

-- X units are X * 2 ^ low f square units
unfoldable pub sqrt_of : Format → Float → Float
sqrt_of f (fin s zero e) = fin s zero e
sqrt_of f (inf false) = inf false
sqrt_of f (fin true (suc m) e) = nan
sqrt_of f (inf true) = nan
sqrt_of f nan = nan
sqrt_of f (fin false (suc m) e) = root_nearest f (units_of f (fin false (suc m) e) * 2 ^ low f)

-- the exact root of x, a finite value that is not below zero
abbrev pub exact_root : Format → Float → Size
exact_root f x = root_of (units_of f x * 2 ^ low f)

-- "else the nearest": of a finite x above zero, r is the value of f nearest to its root
abbrev pub SqrtNearest : Format → Float → Float → Type 0
SqrtNearest f x r = T (positive x) → Nearest f false (exact_root f x) r

-- r is the square root of x, and where 01 says "nearest" no other value is
pub record Rooted (f : Format) (x r : Float) : Type 0 where
  pub is : r ≡ sqrt_of f x
  pub nearest : SqrtNearest f x r
  pub only : T (positive x) → OnlyNearest f false (exact_root f x) r
