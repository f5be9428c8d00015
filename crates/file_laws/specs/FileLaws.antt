-- What holds of every section that is found, and of every refusal.
use Rattle.std.specs.Prelude.{ℕ, ◌+◌, ◌*◌, ◌≤◌, ◌≡◌, List, length, take, drop, Ok, Err}
use Rattle.groups.specs.Groups.{read_at, number}
use Rattle.payloads.specs.Payload.{form_of}
use Rattle.payloads.specs.declared.form.Form.TheVariants.{Listed}
use Rattle.cut_files.specs.File.{section_of}
use Rattle.cut_files.specs.Part.{part, doubles_in}
use Rattle.sections.specs.Section.{placed}

-- what is found is of the kind asked for, and its payload is a part of the file
abbrev pub InTheFile : Type 0
InTheFile = (l : List ℕ) (asked kind start end : ℕ) → section_of l asked ≡ Ok (placed kind start end) → (kind ≡ asked) × (start ≤ end) × (end ≤ length l)

-- what is not found has one of the numbers 40 to 46, so that 0 says that the section is there
abbrev pub HasANumber : Type 0
HasANumber = (l : List ℕ) (asked n : ℕ) → section_of l asked ≡ Err n → (40 ≤ n) × (n ≤ 46)

-- "hold a count and that many double patterns": of a list `doubles` hands back the patterns that the count counts, from the place after it to the end
pub record AllCounted (l : List ℕ) (start end : ℕ) (doubles : List ℕ) : Type 0 where
  pub count : ℕ
  pub next : ℕ
  pub read : read_at l start end ≡ Ok (number count next)
  pub all : next + 8 * count ≡ end
  pub those : doubles ≡ take (8 * count) (drop next l)

abbrev pub CountedDoubles : Type 0
CountedDoubles = (l : List ℕ) (asked kind start end limit : ℕ) → section_of l asked ≡ Ok (placed kind start end) → form_of asked ≡ Ok (Listed limit)
    → AllCounted l start end (doubles_in (part l (section_of l asked)))
