-- Refusals in order: a test gives 0 where it passes and its number where it fails, and the first number that is not 0 is the answer.
use Rattle.std.specs.Prelude.{Bool, true, false, ℕ, zero, suc}

-- 0 where the test passes, else the number
abbrev pub unless : Bool → ℕ → ℕ
unless true n = 0
unless false n = n

infixr 20 ◌or◌
-- the first refusal, or the later where there is none
abbrev pub ◌or◌ : ℕ → ℕ → ℕ
zero or later = later
suc n or later = suc n

-- what lent memory is left as: the new contents where nothing was refused, and else the old
abbrev pub only_if : {A : Type 0} → ℕ → A → A → A
only_if zero new old = new
only_if (suc n) new old = old
