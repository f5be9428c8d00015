-- A fraction cut on a grid of halves. The lowest digit says whether the cut lost something, which is all that rounding has to know of the rest.
use Rattle.std.specs.Prelude.{ℕ, ◌+◌, ◌*◌, ◌/◌, ◌%◌, min}

-- the whole part of a / b, twice, and one more where a / b is not whole
abbrev pub stick : ℕ → ℕ → ℕ
stick a b = 2 * (a / b) + min 1 (a % b)
