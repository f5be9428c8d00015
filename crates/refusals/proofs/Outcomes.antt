-- What a refusal and a success owe to the outcome that every operation promises.
use Prim.Native.Nat.{ℕ, zero, suc}
use mathlib.Core.Path.{◌≡◌, refl, sym, ap, ◌∙◌}
use mathlib.Core.List.{List}
use Rattle.loops.specs.Upto.{filled}
use Rattle.refusals.specs.Refusals.{◌or◌}
use Rattle.refusals.proofs.Chains.{only_done}
use Rattle.refusals.specs.Outcome.{answered, Outcome}

-- a chain of refusals whose first part gave `number`: it is the answer, or the rest is
pub or_stop : (number first rest : ℕ) → number ≡ first → (number ≡ 0 → ⊥) → number ≡ first or rest
or_stop zero first rest e h = absurd (h refl)
or_stop (suc number) first rest e h = rw (← e)

pub or_next : (number first rest later : ℕ) → number ≡ first → number ≡ 0 → later ≡ rest → later ≡ first or rest
or_next number first rest later e h l = rw (← e, h) l

pub answered_refused : {A : Type 0} (done : A) (refused : ℕ → A) (number m : ℕ) → m ≡ number → (m ≡ 0 → ⊥) → refused m ≡ answered done refused number
answered_refused done refused zero m e h = absurd (h e)
answered_refused done refused (suc number) m e h = ap refused e

pub succeeds : {A E : Type 0} {done : A} {refused : ℕ → A} {number : ℕ} {entry : ℕ → E} {n : ℕ} {old : List E} {r : A} {new : List E} → number ≡ 0 → r ≡ done
    → new ≡ filled entry n old → Outcome done refused number entry n old r new
succeeds e a f = record { answer = rw e a; left = f ∙ sym (only_done _ _ _ e) }
