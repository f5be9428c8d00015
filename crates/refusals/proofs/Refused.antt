-- Every refusal has a number above 0, which is the number of no refusal.
use Rattle.std.specs.Prelude.{ℕ, suc, ◌≡◌, Bool, true, Ok, refl}
use Rattle.std.proofs.Common.{◌∙◌, sym}
use native.Mathlib.Nat.{suc-ne-zero}
use Rattle.refusals.specs.Refusals.{unless}
use Rattle.refusals.specs.Refusal.{number_of, number_in}
use Rattle.refusals.proofs.Chains.{unless_none}
use Rattle.refusals.specs.declared.refusal.Refusal.{Refusal}
use Rattle.refusals.specs.declared.refusal.Refusal.TheVariants.{RowsLength, RequestNumber, PreviousStation, CurrentBounds, RowNumber, RowImpossible, ProjectionNotFinite, ProjectionEmpty}
use Rattle.refusals.specs.declared.refusal.Refusal.TheVariants.{MiddleFails, NotEights, StationCount, SpeedCount, StationNotFinite, SpeedNotFinite, StationsNotIncreasing, StartNotFinite}
use Rattle.refusals.specs.declared.refusal.Refusal.TheVariants.{SpeedNegative, Standstill, ComputedTimeNotFinite, TimeCount, TimeNotFinite, TimesNotIncreasing, StepNotFinite, StepNotPositive}
use Rattle.refusals.specs.declared.refusal.Refusal.TheVariants.{NoSamples, SampleNotFinite, SamplesNotIncreasing, TooManySamples, OutputTooShort, FileTooLong, FileNumber, KindUnknown}
use Rattle.refusals.specs.declared.refusal.Refusal.TheVariants.{KindNotRising, PayloadBeyondFile, PayloadForm, KindAbsent, WalkFull}

pub number_suc : (r : Refusal) → (m : ℕ) × (number_of r ≡ suc m)
number_suc RowsLength = (0, refl)
number_suc RequestNumber = (1, refl)
number_suc PreviousStation = (2, refl)
number_suc CurrentBounds = (3, refl)
number_suc RowNumber = (4, refl)
number_suc RowImpossible = (5, refl)
number_suc ProjectionNotFinite = (6, refl)
number_suc ProjectionEmpty = (7, refl)
number_suc MiddleFails = (8, refl)
number_suc NotEights = (9, refl)
number_suc StationCount = (10, refl)
number_suc SpeedCount = (11, refl)
number_suc StationNotFinite = (12, refl)
number_suc SpeedNotFinite = (13, refl)
number_suc StationsNotIncreasing = (14, refl)
number_suc StartNotFinite = (15, refl)
number_suc SpeedNegative = (16, refl)
number_suc Standstill = (17, refl)
number_suc ComputedTimeNotFinite = (18, refl)
number_suc TimeCount = (19, refl)
number_suc TimeNotFinite = (20, refl)
number_suc TimesNotIncreasing = (21, refl)
number_suc StepNotFinite = (22, refl)
number_suc StepNotPositive = (23, refl)
number_suc NoSamples = (24, refl)
number_suc SampleNotFinite = (25, refl)
number_suc SamplesNotIncreasing = (26, refl)
number_suc TooManySamples = (27, refl)
number_suc OutputTooShort = (28, refl)
number_suc FileTooLong = (39, refl)
number_suc FileNumber = (40, refl)
number_suc KindUnknown = (41, refl)
number_suc KindNotRising = (42, refl)
number_suc PayloadBeyondFile = (43, refl)
number_suc PayloadForm = (44, refl)
number_suc KindAbsent = (45, refl)
number_suc WalkFull = (60, refl)

pub number_some : (r : Refusal) → number_of r ≡ 0 → ⊥
number_some r h = let m = number_suc r in suc-ne-zero m.0 (sym m.1 ∙ h)

-- a test that refused nothing passed
pub let_through : {A : Type 0} (r : Refusal) (ok : Bool) (x : A) → number_in (Ok x) ≡ unless ok (number_of r) → ok ≡ true
let_through r ok x h = unless_none ok (number_of r) (number_some r) (sym h)
