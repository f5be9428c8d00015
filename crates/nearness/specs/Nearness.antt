-- What "nearest" means. 01: "the closest double, ties to even; an exact size of 2^1024 - 2^970 or more gives infinity. State nearness over whole
-- numbers, squares compared with squares." Sizes are counted in units, the format's smallest positive value, and any format will do.
use Rattle.std.specs.Prelude.{◌≡◌, ℕ, ◌+◌, ◌-◌, ◌*◌, ◌%◌, ◌^◌, ◌≤◌, ◌<◌, Bool, T, Float}
use Rattle.std.specs.Float.{nan, inf, fin, Format}
use Rattle.std.specs.Float.Ieee.{prec, emax, low, fits, to_bits}
use Rattle.std.specs.Float.Ieee.Scale.{finite}
use Rattle.number.specs.Units.{units_of}

-- An exact size, whole or not, is known by how twice that size compares with each whole number of units.
pub record Size : Type 1 where
  pub at_most : ℕ → Type 0
  pub at_least : ℕ → Type 0

-- the plain form: the fraction num / den
abbrev pub fraction : Format → ℕ → ℕ → Size
fraction f num den = record { at_most = λ k. 2 * (num * 2 ^ low f) ≤ k * den; at_least = λ k. k * den ≤ 2 * (num * 2 ^ low f) }

-- the square form: the root of n square units
abbrev pub root_of : ℕ → Size
root_of n = record { at_most = λ k. 4 * n ≤ k * k; at_least = λ k. k * k ≤ 4 * n }

-- Twice the size from which on the nearest is an infinity: for binary64, 2^1024 - 2^970 is 2^2098 - 2^2044 units.
abbrev pub limit : Format → ℕ
limit f = 2 * (2 ^ (low f + emax f + 1) - 2 ^ (low f + emax f - prec f))

-- The exact size v lies no nearer to another value y than to x: twice v is on x's side of the sum of both, which is twice the point half way.
-- At that point, a tie, x is the even one: the lowest bit of its pattern is 0.
pub record Closest (f : Format) (v : Size) (x : Float) : Type 0 where
  pub above : (y : Float) → T (fits f y) → T (finite y) → units_of f x < units_of f y → v.at_most (units_of f x + units_of f y)
  pub below : (y : Float) → T (fits f y) → T (finite y) → units_of f y < units_of f x → v.at_least (units_of f x + units_of f y)
  pub tie : (y : Float) → T (fits f y) → T (finite y) → (units_of f x ≡ units_of f y → ⊥) → v.at_most (units_of f x + units_of f y) → v.at_least (units_of f x + units_of f y)
      → to_bits f x % 2 ≡ 0

-- x is the value of the format f that is nearest to the size v with the sign s
abbrev pub Nearest : Format → Bool → Size → Float → Type 0
Nearest f s v nan = ⊥
Nearest f s v (inf t) = (t ≡ s) × v.at_least (limit f)
Nearest f s v (fin t m e) = (t ≡ s) × T (fits f (fin t m e)) × (v.at_least (limit f) → ⊥) × Closest f v (fin t m e)

-- no value but x is nearest to the size v with the sign s
abbrev pub OnlyNearest : Format → Bool → Size → Float → Type 0
OnlyNearest f s v x = (y : Float) → Nearest f s v y → y ≡ x
