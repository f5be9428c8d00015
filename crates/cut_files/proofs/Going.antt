-- Going from section to section: what is left of the file begins with the section that is read, and goes on behind it.
use Rattle.std.proofs.Common.{ℕ, zero, suc, ◌+◌, ◌-◌, ◌≤◌, ◌<◌, ◌≡◌, refl, sym, ap, subst, ◌∙◌, cond, List, [], ◌∷◌, length, Result, Ok, Err, ltb, arith}
use borrow.Author.Tests.{lt-ltb, le-ltb}
use Rattle.sections.specs.Section.{section_at}
use Rattle.sections.specs.declared.Section.{Section}
use Rattle.sections.proofs.Sectioned.{Lies, Sectioned, section_found}
use Rattle.cut_files.specs.File.{followed, sections_from, sections_left, sections_of}

module _ (l : List ℕ) where
  -- so many sections at most that there are no more
  enough : (n m at previous : ℕ) → length l ≤ at + n → length l ≤ at + m → sections_from l n at previous ≡ sections_from l m at previous
  unfolding sections_from
  enough zero zero at previous h g = refl
  enough zero (suc m) at previous h g = simp (le-ltb at (length l) (omega arith))
  enough (suc n) zero at previous h g = simp (le-ltb at (length l) (omega arith))
  enough (suc n) (suc m) at previous h g =
      ap (λ (s : List (Result Section ℕ)). cond (ltb at (length l)) s [])
      (on (section_at l at previous) (section_found l at previous) (λ s f. enough n m s.end s.kind (omega (arith, f.further)) (omega (arith, f.further))))
    where
      on : (s : Result Section ℕ) → Sectioned l at s
          → ((s : Section) → Lies l at s.kind s.start s.end → sections_from l n s.end s.kind ≡ sections_from l m s.end s.kind)
          → followed s (sections_from l n) ≡ followed s (sections_from l m)
      on (Ok s) f later = ap (λ t. Ok s ∷ t) (later s f)
      on (Err _) f later = refl

  pub left_all : sections_left l 0 0 ≡ sections_of l
  unfolding sections_left sections_of
  left_all =
      let e : length l - 0 ≡ length l = omega arith in
      rw e

  pub left_none : (at previous : ℕ) → length l ≤ at → sections_left l at previous ≡ []
  unfolding sections_left sections_from
  left_none at previous h =
      let e : length l - at ≡ 0 = omega arith in
      rw e

  next_sections : (n at previous : ℕ) → at < length l → sections_from l (suc n) at previous ≡ followed (section_at l at previous) (sections_from l n)
  unfolding sections_from
  next_sections n at previous h = simp (lt-ltb at (length l) h)

  left_on : (at previous : ℕ) → at < length l → sections_left l at previous ≡ followed (section_at l at previous) (sections_from l (length l - at - 1))
  unfolding sections_left
  left_on at previous h =
      let e : length l - at ≡ suc (length l - at - 1) = omega arith in
      ap (λ (n : ℕ). sections_from l n at previous) e ∙ next_sections (length l - at - 1) at previous h

  pub left_placed : (at previous : ℕ) (s : Section) → at < length l → Ok s ≡ section_at l at previous → sections_left l at previous ≡ Ok s ∷ sections_left l s.end s.kind
  unfolding sections_left
  left_placed at previous s h e =
      let f : Sectioned l at (Ok s) = subst (Sectioned l at) (sym e) (section_found l at previous) in
      left_on at previous h ∙ ap (λ (r : Result Section ℕ). followed r (sections_from l (length l - at - 1))) (sym e)
      ∙ ap (λ later. Ok s ∷ later) (enough (length l - at - 1) (length l - s.end) s.end s.kind (omega (arith, f.further)) (omega arith))

  pub left_refused : (at previous n : ℕ) → at < length l → Err n ≡ section_at l at previous → sections_left l at previous ≡ Err n ∷ sections_left l (length l) previous
  left_refused at previous n h e =
      left_on at previous h ∙ ap (λ (r : Result Section ℕ). followed r (sections_from l (length l - at - 1))) (sym e)
      ∙ ap (λ later. Err n ∷ later) (sym (left_none (length l) previous (omega arith)))
