-- What is known of a section: it lies in the file past its place and its payload has no fault, or it is refused by one of the file's numbers.
use Rattle.std.proofs.Common.{ℕ, zero, suc, ◌+◌, ◌*◌, ◌-◌, ◌≤◌, ◌<◌, ◌≡◌, refl, Bool, true, false, List, length, get_or}
use Rattle.std.proofs.Common.{Result, Ok, Err, leb, eqb, arith}
use native.Mathlib.Nat.{suc-ne-zero}
use borrow.Author.Tests.{leb-true}
use Rattle.refusals.specs.Refusals.{unless, ◌or◌}
use Rattle.refusals.specs.Outcome.{answered}
use Rattle.refusals.proofs.Chains.{or_none, unless_none}
use Rattle.groups.specs.Groups.{read_at}
use Rattle.groups.specs.declared.Number.{Number}
use Rattle.groups.specs.declared.Fault.{Fault}
use Rattle.groups.specs.declared.Fault.TheVariants.{Cut, Faulty}
use Rattle.groups.proofs.Numbers.{Known, known}
use Rattle.payloads.specs.Payload.{form_of, form_number, count_number, grid_number, payload_number}
use Rattle.payloads.proofs.Forms.{each_form}
use Rattle.payloads.specs.declared.form.Form.{Form}
use Rattle.payloads.specs.declared.form.Form.TheVariants.{Listed, Grid}
use Rattle.sections.specs.Section.{rises, kind_number, onward, payload_at, length_at, kind_at, section_at, placed}
use Rattle.sections.specs.declared.Section.{Section}

pub record Lies (l : List ℕ) (at kind start end : ℕ) : Type 0 where
  pub further : at < end
  pub ordered : start ≤ end
  pub held : end ≤ length l
  pub sound : payload_number l (form_of kind) start end ≡ 0

abbrev pub Numbered : ℕ → Type 0
Numbered n = (40 ≤ n) × (n ≤ 46)

abbrev pub Sectioned : List ℕ → ℕ → Result Section ℕ → Type 0
Sectioned l at (Ok s) = Lies l at s.kind s.start s.end
Sectioned l at (Err n) = Numbered n

-- ---- a chain of tests gives 0 or one of the file's numbers
abbrev pub NumberedOrNone : ℕ → Type 0
NumberedOrNone n = (n ≡ 0 → ⊥) → Numbered n

pub judged_none : NumberedOrNone 0
judged_none h = absurd (h refl)

pub judged_unless : (t : Bool) (n : ℕ) → Numbered n → NumberedOrNone (unless t n)
judged_unless true n h = judged_none
judged_unless false n h = λ _. h

pub judged_or : (n later : ℕ) → NumberedOrNone n → NumberedOrNone later → NumberedOrNone (n or later)
judged_or zero later h k = k
judged_or (suc n) later h k = h

judged_form : (kind : ℕ) → NumberedOrNone (form_number (form_of kind))
judged_form = each_form (λ form. NumberedOrNone (form_number form)) judged_none judged_none judged_none (λ _. (omega arith, omega arith))

judged_count : (limit end : ℕ) (n : Result Number Fault) → NumberedOrNone (count_number limit end n)
unfolding count_number
judged_count limit end (Ok n) =
    judged_or _ _ (judged_unless (leb n.value limit) 45 (omega arith, omega arith)) (judged_unless (eqb (end - n.next) (8 * n.value)) 45 (omega arith, omega arith))
judged_count limit end (Err Cut) = λ _. (omega arith, omega arith)
judged_count limit end (Err Faulty) = λ _. (omega arith, omega arith)

judged_payload : (l : List ℕ) (form : Result Form ℕ) (start end : ℕ) → NumberedOrNone (form_number form) → NumberedOrNone (payload_number l form start end)
unfolding payload_number grid_number
judged_payload l (Ok (Listed limit)) start end h = judged_count limit end (read_at l start end)
judged_payload l (Ok Grid) start end h =
    judged_or _ _ (judged_unless (eqb (end - start) 17) 45 (omega arith, omega arith)) (judged_unless (leb (get_or l (start + 16) 0) 1) 45 (omega arith, omega arith))
judged_payload l (Err n) start end h = h

-- ---- in reading order
module _ (l : List ℕ) (at : ℕ) where
  pub answered_found : (n : ℕ) (s : Result Section ℕ) → NumberedOrNone n → (n ≡ 0 → Sectioned l at s) → Sectioned l at (answered s Err n)
  answered_found zero s h f = f refl
  answered_found (suc n) s h f = h (suc-ne-zero n)

  onward_found : (from : ℕ) (n : Result Number Fault) (later : ℕ → ℕ → Result Section ℕ) → Known l from (length l) n
      → ((value next : ℕ) → from < next → next ≤ length l → Sectioned l at (later value next)) → Sectioned l at (onward n later)
  onward_found from (Ok n) later g h = h n.value n.next (omega (arith, g.after)) (omega (arith, g.after, g.held))
  onward_found from (Err _) later g h = (omega arith, omega arith)

  payload_found : (kind start size : ℕ) → at < start → Sectioned l at (payload_at l kind start size)
  unfolding payload_at
  payload_found kind start size h =
      answered_found (unless (leb (start + size) (length l)) 44 or payload_number l (form_of kind) start (start + size)) (Ok (placed kind start (start + size)))
      (judged_or _ _ (judged_unless (leb (start + size) (length l)) 44 (omega arith, omega arith)) (judged_payload l (form_of kind) start (start + size) (judged_form kind)))
      (λ e.
      let p = or_none (unless (leb (start + size) (length l)) 44) (payload_number l (form_of kind) start (start + size)) e in
      let t = leb-true _ _ (unless_none (leb (start + size) (length l)) 44 (λ z. omega arith) p.0) in
      record { further = omega arith; ordered = omega arith; held = t; sound = p.1 })

  length_found : (kind next : ℕ) → at < next → Sectioned l at (length_at l kind next)
  unfolding length_at
  length_found kind next h =
      onward_found next (read_at l next (length l)) (λ size start. payload_at l kind start size) (known l next (length l))
      (λ size start a b. payload_found kind start size (omega arith))

  kind_found : (previous kind next : ℕ) → at < next → Sectioned l at (kind_at l previous kind next)
  unfolding kind_at
  kind_found previous kind next h =
      answered_found (kind_number previous kind) (length_at l kind next)
      (judged_or _ _ (judged_unless (rises previous kind) 43 (omega arith, omega arith)) (judged_form kind))
      (λ e. length_found kind next h)

  pub section_found : (previous : ℕ) → Sectioned l at (section_at l at previous)
  unfolding section_at
  section_found previous =
      onward_found at (read_at l at (length l)) (λ kind next. kind_at l previous kind next) (known l at (length l))
      (λ kind next a b. kind_found previous kind next a)
