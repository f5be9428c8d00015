-- The whole file: its sections, its first fault, and the section of a kind.
use Rattle.std.specs.Prelude.{ℕ, zero, suc, ◌-◌, cond, List, [], ◌∷◌, ltb, leb, eqb, length, Result, Ok, Err}
use Rattle.refusals.specs.Refusals.{unless, ◌or◌}
use Rattle.refusals.specs.Outcome.{answered}
use Rattle.sections.specs.Section.{section_at}
use Rattle.sections.specs.declared.Section.{Section}

-- a section and those after it; nothing after a fault is read
abbrev pub followed : Result Section ℕ → (ℕ → ℕ → List (Result Section ℕ)) → List (Result Section ℕ)
followed (Ok s) later = Ok s ∷ later s.end s.kind
followed (Err number) later = Err number ∷ []

-- the sections from a place on, after one of kind `previous`, n at most; the file's length will do for n, since each takes a byte or more
unfoldable pub sections_from : List ℕ → ℕ → ℕ → ℕ → List (Result Section ℕ)
sections_from l zero at previous = []
sections_from l (suc n) at previous = cond (ltb at (length l)) (followed (section_at l at previous) (sections_from l n)) []

-- as many as there are
unfoldable pub sections_left : List ℕ → ℕ → ℕ → List (Result Section ℕ)
sections_left l at previous = sections_from l (length l - at) at previous

unfoldable pub sections_of : List ℕ → List (Result Section ℕ)
sections_of l = sections_from l (length l) 0 0

-- ---- the judge
-- the fault among sections, 0 for none
unfoldable pub fault_in : List (Result Section ℕ) → ℕ
fault_in [] = 0
fault_in (Ok s ∷ later) = fault_in later
fault_in (Err number ∷ later) = number

-- "40 file too long, before all"
unfoldable pub file_number : List ℕ → ℕ
file_number l = unless (leb (length l) 65536) 40 or fault_in (sections_of l)

-- ---- what is asked for
-- the section of a kind among others; "46 kind absent"
unfoldable pub among : ℕ → List (Result Section ℕ) → Result Section ℕ
among asked [] = Err 46
among asked (Ok s ∷ later) = cond (eqb s.kind asked) (Ok s) (among asked later)
among asked (Err number ∷ later) = Err number

-- "after the whole file is found sound": the first fault decides, whichever kind is asked for
unfoldable pub section_of : List ℕ → ℕ → Result Section ℕ
section_of l asked = answered (among asked (sections_of l)) Err (file_number l)
