-- What is known of the section of a kind: it lies in the file and its kind is the one asked for, or it is refused by one of the file's numbers.
use Rattle.std.proofs.Common.{ℕ, zero, suc, ◌≤◌, ◌≡◌, refl, sym, subst, Bool, true, false, cond, List, [], length, Result, Ok, Err, ltb, leb, eqb, arith}
use native.Mathlib.Nat.{suc-ne-zero}
use borrow.Author.Tests.{eqb-true}
use Rattle.refusals.specs.Outcome.{answered}
use Rattle.sections.specs.Section.{section_at}
use Rattle.cut_files.specs.File.{followed, sections_from, sections_of, fault_in, file_number, among, section_of}
use Rattle.sections.specs.declared.Section.{Section}
use Rattle.sections.proofs.Sectioned.{Lies, Numbered, Sectioned, NumberedOrNone, judged_none, judged_unless, judged_or, section_found}

pub record OfTheKind (l : List ℕ) (asked kind start end : ℕ) : Type 0 where
  pub kind_is : kind ≡ asked
  pub lies : Lies l 0 kind start end

abbrev pub Handed : List ℕ → ℕ → Result Section ℕ → Type 0
Handed l asked (Ok s) = OfTheKind l asked s.kind s.start s.end
Handed l asked (Err n) = Numbered n

module _ (l : List ℕ) where
  fault_judged : (n at previous : ℕ) → NumberedOrNone (fault_in (sections_from l n at previous))
  unfolding sections_from fault_in
  fault_judged zero at previous = judged_none
  fault_judged (suc n) at previous = go (ltb at (length l)) (fault_judged n)
    where
      on : (s : Result Section ℕ) → Sectioned l at s → ((end kind : ℕ) → NumberedOrNone (fault_in (sections_from l n end kind)))
          → NumberedOrNone (fault_in (followed s (sections_from l n)))
      on (Ok s) f later = later s.end s.kind
      on (Err m) f later = λ _. f

      go : (t : Bool) → ((end kind : ℕ) → NumberedOrNone (fault_in (sections_from l n end kind)))
          → NumberedOrNone (fault_in (cond t (followed (section_at l at previous) (sections_from l n)) []))
      go true later = on (section_at l at previous) (section_found l at previous) later
      go false later = judged_none

  file_judged : NumberedOrNone (file_number l)
  unfolding file_number sections_of
  file_judged = judged_or _ _ (judged_unless (leb (length l) 65536) 40 (omega arith, omega arith)) (fault_judged (length l) 0 0)

  among_handed : (asked n at previous : ℕ) → Handed l asked (among asked (sections_from l n at previous))
  unfolding sections_from among
  among_handed asked zero at previous = (omega arith, omega arith)
  among_handed asked (suc n) at previous = go (ltb at (length l)) (among_handed asked n)
    where
      met : (s : Section) → Lies l at s.kind s.start s.end → (t : Bool) → eqb s.kind asked ≡ t → Handed l asked (among asked (sections_from l n s.end s.kind))
          → Handed l asked (cond t (Ok s) (among asked (sections_from l n s.end s.kind)))
      met s f true q later =
          let h = f.further in
          record { kind_is = eqb-true s.kind asked q; lies = record { further = omega arith; ordered = f.ordered; held = f.held; sound = f.sound } }
      met s f false q later = later

      on : (s : Result Section ℕ) → Sectioned l at s → ((end kind : ℕ) → Handed l asked (among asked (sections_from l n end kind)))
          → Handed l asked (among asked (followed s (sections_from l n)))
      on (Ok s) f later = met s f (eqb s.kind asked) refl (later s.end s.kind)
      on (Err m) f later = f

      go : (t : Bool) → ((end kind : ℕ) → Handed l asked (among asked (sections_from l n end kind)))
          → Handed l asked (among asked (cond t (followed (section_at l at previous) (sections_from l n)) []))
      go true later = on (section_at l at previous) (section_found l at previous) later
      go false later = (omega arith, omega arith)

  pub section_handed : (asked : ℕ) → Handed l asked (section_of l asked)
  unfolding section_of sections_of
  section_handed asked = go (file_number l) file_judged
    where
      go : (n : ℕ) → NumberedOrNone n → Handed l asked (answered (among asked (sections_from l (length l) 0 0)) Err n)
      go zero h = among_handed asked (length l) 0 0
      go (suc n) h = h (suc-ne-zero n)

module _ (l : List ℕ) (asked : ℕ) (s : Section) (e : Ok s ≡ section_of l asked) where
  placed_is : OfTheKind l asked s.kind s.start s.end
  placed_is = subst (Handed l asked) (sym e) (section_handed l asked)

  pub placed_ordered : s.start ≤ s.end
  placed_ordered = placed_is.lies.ordered

  pub placed_held : s.end ≤ length l
  placed_held = placed_is.lies.held
