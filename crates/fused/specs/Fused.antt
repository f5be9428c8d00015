-- What is promised of the fused multiply-add. 01: "nearest to xy + z, one rounding". What it is, `fma_of`, is said in crate whole_fma.
use Rattle.std.specs.Prelude.{◌≡◌, ℕ, ◌*◌, ◌^◌, Bool, T, Float}
use Rattle.std.specs.Float.{Format}
use Rattle.std.specs.Float.Ieee.{low, unlike}
use Rattle.std.specs.Float.Ieee.Scale.{finite}
use Rattle.number.specs.Units.{units_of}
use Rattle.number.specs.Leaves.{negative}
use Rattle.nearness.specs.Nearness.{Size, fraction, Nearest, OnlyNearest}
use Rattle.whole_fma.specs.MultiplyAdd.{exact_size, exact_sign}
unfoldable pub use Rattle.whole_fma.specs.MultiplyAdd.{inf_plus, fma_of}

-- of xy + z, of finite values: X units times Y units are X * Y square units, and Z units are Z * 2 ^ low f
abbrev pub sign_of_sum : Format → Float → Float → Float → Bool
sign_of_sum f x y z = exact_sign (unlike (negative x) (negative y)) (units_of f x * units_of f y) (negative z) (units_of f z * 2 ^ low f)

abbrev pub square_units : Format → Float → Float → Float → ℕ
square_units f x y z = exact_size (unlike (negative x) (negative y)) (units_of f x * units_of f y) (negative z) (units_of f z * 2 ^ low f)

abbrev pub exact_sum : Format → Float → Float → Float → Size
exact_sum f x y z = fraction f (square_units f x y z) (2 ^ low f * 2 ^ low f)

-- "nearest to xy + z": of finite x, y and z, r is the value of f nearest to it
abbrev pub FmaNearest : Format → Float → Float → Float → Float → Type 0
FmaNearest f x y z r = T (finite x) → T (finite y) → T (finite z) → Nearest f (sign_of_sum f x y z) (exact_sum f x y z) r

-- r is the fused multiply-add of x, y and z, and where 01 says "nearest" no other value is
pub record Fused (f : Format) (x y z r : Float) : Type 0 where
  pub is : r ≡ fma_of f x y z
  pub nearest : FmaNearest f x y z r
  pub only : T (finite x) → T (finite y) → T (finite z) → OnlyNearest f (sign_of_sum f x y z) (exact_sum f x y z) r
