-- The root of a number of which only the upper digits are at hand. No public promise cites it: it is what the floor root says to its callers.
use Rattle.std.specs.Prelude.{ℕ, ◌+◌, ◌-◌, ◌*◌, min}
use Rattle.exact_roots.specs.Root.{isqrt}

-- twice the whole part of n's root, and one more where n is no square, or t is not 0: t is what a number that was cut to n has lost
unfoldable pub stick_more : ℕ → ℕ → ℕ
stick_more n t = let r = isqrt n in 2 * r + min 1 (n - r * r + t)
