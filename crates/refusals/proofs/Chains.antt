-- What a chain of refusals says: where it gives 0, each test in it passed.
use mathlib.Core.Path.{◌≡◌, refl}
use mathlib.Core.Bool.{Bool, true, false, cond}
use Prim.Native.Nat.{ℕ, zero, suc}
use native.Mathlib.Nat.{suc-ne-zero}
use Rattle.refusals.specs.Refusals.{unless, ◌or◌, only_if}

pub or_some : (n later : ℕ) → (n ≡ 0 → ⊥) → n ≡ n or later
or_some zero later h = absurd (h refl)
or_some (suc n) later h = refl

pub only_done : {A : Type 0} (n : ℕ) (new old : A) → n ≡ 0 → only_if n new old ≡ new
only_done n new old h = rw h

pub only_kept : {A : Type 0} (n : ℕ) (new old : A) → (n ≡ 0 → ⊥) → only_if n new old ≡ old
only_kept zero new old h = absurd (h refl)
only_kept (suc n) new old h = refl

pub or_none : (n later : ℕ) → n or later ≡ 0 → (n ≡ 0) × (later ≡ 0)
or_none zero later h = (refl, h)
or_none (suc n) later h = absurd (suc-ne-zero n h)

pub unless_none : (ok : Bool) (n : ℕ) → (n ≡ 0 → ⊥) → unless ok n ≡ 0 → ok ≡ true
unless_none true n h e = refl
unless_none false n h e = absurd (h e)

pub or_assoc : (a b c : ℕ) → (a or b) or c ≡ a or (b or c)
or_assoc zero b c = refl
or_assoc (suc a) b c = refl

-- a test in a chain, and the last one: what the code's steps give is what a definition says
pub tested : {r : ℕ} {b p : Bool} (n : ℕ) → r ≡ unless b n → b ≡ p → r ≡ unless p n
tested n e t = rw (e, t)

pub chained : {r first later rest : ℕ} {b p : Bool} (n : ℕ) → r ≡ first or later → first ≡ unless b n → b ≡ p → later ≡ rest → r ≡ unless p n or rest
chained n e f t l = rw (e, f, t, l)

-- a test whose number stands for all later ones
pub or_cond : (p : Bool) (n later : ℕ) → (n ≡ 0 → ⊥) → cond p later n ≡ unless p n or later
or_cond true n later h = refl
or_cond false zero later h = absurd (h refl)
or_cond false (suc n) later h = refl
