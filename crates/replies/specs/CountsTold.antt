-- t to s as a C caller has it: 01's number for each case of the answer, and what the four lent counts then hold.
use Rattle.std.specs.Prelude.{ℕ, ◌≡◌, Result, Ok, Err}
use Rattle.following.specs.declared.pass.Counts.{Counts}

-- 01's number and values for each case of the answer: a refusal leaves what there was
abbrev pub sampled_number : Result Counts ℕ → ℕ
sampled_number (Ok c) = 0
sampled_number (Err k) = k

abbrev pub before_left : Result Counts ℕ → ℕ → ℕ
before_left (Ok c) old = c.before
before_left (Err k) old = old

abbrev pub inside_left : Result Counts ℕ → ℕ → ℕ
inside_left (Ok c) old = c.inside
inside_left (Err k) old = old

abbrev pub past_left : Result Counts ℕ → ℕ → ℕ
past_left (Ok c) old = c.past
past_left (Err k) old = old

abbrev pub written_left : Result Counts ℕ → ℕ → ℕ
written_left (Ok c) old = c.written
written_left (Err k) old = old

-- the reply to an answer: the number, and each lent count before and after
pub record Counted (a : Result Counts ℕ) (number before₀ before inside₀ inside past₀ past written₀ written : ℕ) : Type 0 where
  pub number_is : number ≡ sampled_number a
  pub before_is : before ≡ before_left a before₀
  pub inside_is : inside ≡ inside_left a inside₀
  pub past_is : past ≡ past_left a past₀
  pub written_is : written ≡ written_left a written₀
