-- Refusals by the numbers that documents 01 and 02 give them. Definitions and theorems speak of numbers, code of what is refused.
use Rattle.std.specs.Prelude.{ℕ, Result, Ok, Err}
use Rattle.refusals.specs.declared.refusal.Refusal.{Refusal}
use Rattle.refusals.specs.declared.refusal.Refusal.TheVariants.{RowsLength, RequestNumber, PreviousStation, CurrentBounds, RowNumber, RowImpossible, ProjectionNotFinite, ProjectionEmpty}
use Rattle.refusals.specs.declared.refusal.Refusal.TheVariants.{MiddleFails, NotEights, StationCount, SpeedCount, StationNotFinite, SpeedNotFinite, StationsNotIncreasing, StartNotFinite}
use Rattle.refusals.specs.declared.refusal.Refusal.TheVariants.{SpeedNegative, Standstill, ComputedTimeNotFinite, TimeCount, TimeNotFinite, TimesNotIncreasing, StepNotFinite, StepNotPositive}
use Rattle.refusals.specs.declared.refusal.Refusal.TheVariants.{NoSamples, SampleNotFinite, SamplesNotIncreasing, TooManySamples, OutputTooShort, FileTooLong, FileNumber, KindUnknown}
use Rattle.refusals.specs.declared.refusal.Refusal.TheVariants.{KindNotRising, PayloadBeyondFile, PayloadForm, KindAbsent, WalkFull}

abbrev pub number_of : Refusal → ℕ
number_of RowsLength = 1
number_of RequestNumber = 2
number_of PreviousStation = 3
number_of CurrentBounds = 4
number_of RowNumber = 5
number_of RowImpossible = 6
number_of ProjectionNotFinite = 7
number_of ProjectionEmpty = 8
number_of MiddleFails = 9
number_of NotEights = 10
number_of StationCount = 11
number_of SpeedCount = 12
number_of StationNotFinite = 13
number_of SpeedNotFinite = 14
number_of StationsNotIncreasing = 15
number_of StartNotFinite = 16
number_of SpeedNegative = 17
number_of Standstill = 18
number_of ComputedTimeNotFinite = 19
number_of TimeCount = 20
number_of TimeNotFinite = 21
number_of TimesNotIncreasing = 22
number_of StepNotFinite = 23
number_of StepNotPositive = 24
number_of NoSamples = 25
number_of SampleNotFinite = 26
number_of SamplesNotIncreasing = 27
number_of TooManySamples = 28
number_of OutputTooShort = 29
number_of FileTooLong = 40
number_of FileNumber = 41
number_of KindUnknown = 42
number_of KindNotRising = 43
number_of PayloadBeyondFile = 44
number_of PayloadForm = 45
number_of KindAbsent = 46
number_of WalkFull = 61

-- the number of an answer, by the number of what refuses: 0 where it is answered
abbrev pub number_by : {A E : Type 0} → (E → ℕ) → Result A E → ℕ
number_by number (Ok x) = 0
number_by number (Err e) = number e

-- the answer, with that number in place of what refuses
abbrev pub numbered_by : {A E : Type 0} → (E → ℕ) → Result A E → Result A ℕ
numbered_by number (Ok x) = Ok x
numbered_by number (Err e) = Err (number e)

-- both where what refuses is a refusal by its name
abbrev pub number_in : {A : Type 0} → Result A Refusal → ℕ
number_in = number_by number_of

abbrev pub numbered : {A : Type 0} → Result A Refusal → Result A ℕ
numbered = numbered_by number_of
