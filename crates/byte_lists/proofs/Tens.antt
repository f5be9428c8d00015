-- 10 comes before all others.
use Prim.Native.Nat.{ℕ}
use mathlib.Core.Path.{◌≡◌}
use mathlib.Core.Bool.{Bool, true}
use mathlib.Core.List.{List}
use Rattle.refusals.specs.Refusals.{unless, ◌or◌}
use Rattle.refusals.specs.Outcome.{Outcome}

pub ten_answered : (whole : Bool) {A E : Type 0} {done : A} {refused : ℕ → A} {number : ℕ} {entry : ℕ → E} {n : ℕ} {old new : List E} {x : A} → whole ≡ true
    → Outcome done refused number entry n old x new → Outcome done refused (unless whole 10 or number) entry n old x new
ten_answered whole e p = rw e p
