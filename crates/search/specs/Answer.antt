-- What recovery answers: a speed with both worst figures and the number of candidates tried, or the number of a refusal.
use Rattle.std.specs.Prelude.{ℕ, Result, Float}
use Rattle.search.specs.declared.answer.Certified.{Certified}

abbrev pub Answer : Type 0
Answer = Result Certified ℕ

abbrev pub certified : Float → Float → Float → ℕ → Certified
certified x n r t = record { speed = x; worst_normalized = n; worst_raw = r; tried = t }
