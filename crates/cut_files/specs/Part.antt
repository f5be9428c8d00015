-- What is handed back of the section of a kind: its number apart, its payload as a part of the file, and where that part is.
use Rattle.std.specs.Prelude.{ℕ, ◌-◌, ◌%◌, ◌≡◌, List, [], length, take, drop, Result, Ok, Err}
use Rattle.cut_files.specs.File.{section_of}
use Rattle.sections.specs.declared.Section.{Section}

-- its number, 0 where it is there
abbrev pub section_number : Result Section ℕ → ℕ
section_number (Ok s) = 0
section_number (Err number) = number

-- "the section's own payload bytes, as a part of the file lent in. On refusal the part is empty"
abbrev pub part : List ℕ → Result Section ℕ → List ℕ
part l (Ok s) = take (s.end - s.start) (drop s.start l)
part l (Err number) = []

-- the doubles of a list, without its count: the last bytes, as many as go in eights
abbrev pub doubles_in : List ℕ → List ℕ
doubles_in payload = drop (length payload % 8) payload

-- ---- as a C caller has it
-- the number; where the payload starts within the file and its length, which a refusal leaves as they were
abbrev pub start_left : Result Section ℕ → ℕ → ℕ
start_left (Ok s) old = s.start
start_left (Err number) old = old

abbrev pub length_left : Result Section ℕ → ℕ → ℕ
length_left (Ok s) old = s.end - s.start
length_left (Err number) old = old

pub record Located (l : List ℕ) (asked number start₀ start size₀ size : ℕ) : Type 0 where
  pub number_is : number ≡ section_number (section_of l asked)
  pub start_is : start ≡ start_left (section_of l asked) start₀
  pub length_is : size ≡ length_left (section_of l asked) size₀
