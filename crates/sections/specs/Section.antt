-- "A file is sections: kind, payload length in bytes, payload."
use Rattle.std.specs.Prelude.{ℕ, ◌+◌, Bool, ◌||◌, List, ltb, leb, eqb, length, Result, Ok, Err}
use Rattle.refusals.specs.Refusals.{unless, ◌or◌}
use Rattle.refusals.specs.Outcome.{answered}
use Rattle.groups.specs.Groups.{read_at}
use Rattle.groups.specs.declared.Number.{Number}
use Rattle.groups.specs.declared.Fault.{Fault}
use Rattle.payloads.specs.Payload.{form_of, form_number, payload_number}
use Rattle.sections.specs.declared.Section.{Section}

-- a section of a kind, whose payload goes from one place to another
abbrev pub placed : ℕ → ℕ → ℕ → Section
placed kind start end = record { kind = kind; start = start; end = end }

-- "Kinds strictly rise": above the kind before; the first has none before it, for which 0 stands
abbrev pub rises : ℕ → ℕ → Bool
rises previous kind = eqb previous 0 || ltb previous kind

-- "43 kind not rising, before 42 unknown kind"
abbrev pub kind_number : ℕ → ℕ → ℕ
kind_number previous kind = unless (rises previous kind) 43 or form_number (form_of kind)

-- "41 number cut, too long, 2^64 or more, or not shortest"
abbrev pub whole : Result Number Fault → Result Number ℕ
whole (Ok n) = Ok n
whole (Err _) = Err 41

-- what follows a number of the file
abbrev pub onward : Result Number Fault → (ℕ → ℕ → Result Section ℕ) → Result Section ℕ
onward (Ok n) later = later n.value n.next
onward (Err _) later = Err 41

-- ---- a section in reading order
-- "44 payload beyond the file", before anything of it is looked at
unfoldable pub payload_at : List ℕ → ℕ → ℕ → ℕ → Result Section ℕ
payload_at l kind start size =
    answered (Ok (placed kind start (start + size))) Err
    (unless (leb (start + size) (length l)) 44 or payload_number l (form_of kind) start (start + size))

unfoldable pub length_at : List ℕ → ℕ → ℕ → Result Section ℕ
length_at l kind at = onward (read_at l at (length l)) (λ size start. payload_at l kind start size)

unfoldable pub kind_at : List ℕ → ℕ → ℕ → ℕ → Result Section ℕ
kind_at l previous kind at = answered (length_at l kind at) Err (kind_number previous kind)

-- the section at a place, after one of kind `previous`, or its first fault
unfoldable pub section_at : List ℕ → ℕ → ℕ → Result Section ℕ
section_at l at previous = onward (read_at l at (length l)) (λ kind next. kind_at l previous kind next)
