-- The whole number nearest to a root. No public promise cites it: it is what the test of a guess says to its callers.
use Rattle.std.specs.Prelude.{ℕ, ◌+◌, ◌-◌, ◌*◌, ◌<◌}

-- the root of n lies between r - 1/2 and r + 1/2 steps of 2 * b
abbrev pub Within : ℕ → ℕ → ℕ → Type 0
Within n r b = ((2 * r - 1) * b * ((2 * r - 1) * b) < n) × (n < (2 * r + 1) * b * ((2 * r + 1) * b))
