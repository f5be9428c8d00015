-- The starred cases of document 01, in its order. A double is written as its pattern.
use Rattle.std.specs.Prelude.{◌≡◌, true, Ok, Err, List, [], ◌∷◌, ℕ, ◌-◌, length as count, Float}
use Rattle.std.specs.Float.{binary64}
use Rattle.std.specs.Float.Ieee.{of_bits, to_bits}
use Rattle.roots.specs.Root.{sqrt_of}
use Rattle.roots.specs.Hypot.{hypot_of}
use Rattle.fused.specs.Fused.{fma_of}
use Rattle.topp2_ra.specs.Recovery.{recovered}
use Rattle.limits.specs.declared.request.Request.{Request}
use Rattle.search.specs.Answer.{Answer, certified}
use Rattle.loops.specs.Upto.{table}
use Rattle.sloping.specs.Slopes.{slope, slopes_no}
use Rattle.timing.specs.Times.{time_at, times_no}
use Rattle.following.specs.declared.pass.Counts.{Counts}
use Rattle.sampling.specs.List.{list_no, list_counts, list_station}
use Rattle.gridding.specs.Grid.{grid_no, grid_entry, grid_entries, grid_counts}

-- what is asked, and what the answer is
pub data Case : Type 0 where
  root : ℕ → ℕ → Case
  length : ℕ → ℕ → ℕ → Case
  fusion : ℕ → ℕ → ℕ → ℕ → Case
  recovery : ℕ → List ℕ → Answer → Case
  -- stations, squared speeds, (times,) what is asked; the counts, and what is written
  times : List ℕ → List ℕ → ℕ → List ℕ → Case
  slopes : List ℕ → List ℕ → List ℕ → Case
  samples : List ℕ → List ℕ → List ℕ → List ℕ → Counts → List ℕ → Case
  grid : List ℕ → List ℕ → List ℕ → ℕ → ℕ → Counts → List ℕ → Case

abbrev double : ℕ → Float
double n = of_bits binary64 n

abbrev doubles : List ℕ → List Float
doubles [] = []
doubles (n ∷ ns) = double n ∷ doubles ns

abbrev counts : ℕ → ℕ → ℕ → ℕ → Counts
counts b i p w = record { before = b; inside = i; past = p; written = w }

-- "tolerances 0 unless given: a_prev 1, previous [0, 4] cap 9, current [0, 4] cap 3"
abbrev usual : Float → Request
usual tol = record {
  a_prev = double 0x3ff0_0000_0000_0000;
  prev = record { interval = record { lower = double 0; upper = double 0x4010_0000_0000_0000 }; cap = double 0x4022_0000_0000_0000 };
  curr = record { interval = record { lower = double 0; upper = double 0x4010_0000_0000_0000 }; cap = double 0x4008_0000_0000_0000 };
  tolerances = record { feas = tol; abs = double 0; rel = double 0 };
}

-- a call that is not refused writes these n entries
pub record Writes (number : ℕ) (entry : ℕ → Float) (n : ℕ) (out : List ℕ) : Type 0 where
  pub accepted : number ≡ 0
  pub entries : table entry n ≡ doubles out

-- each conversion is given as much room as its answer takes
abbrev pub Holds : Case → Type 0
Holds (root x r) = to_bits binary64 (sqrt_of binary64 (double x)) ≡ r
Holds (length x y r) = to_bits binary64 (hypot_of binary64 (double x) (double y)) ≡ r
Holds (fusion x y z r) = to_bits binary64 (fma_of binary64 (double x) (double y) (double z)) ≡ r
Holds (recovery tol rows a) = recovered (usual (double tol)) (doubles rows) ≡ a
Holds (times s a t0 out) = Writes (times_no (doubles s) (doubles a) (double t0) (count out)) (time_at (doubles s) (doubles a) (double t0)) (count s) out
Holds (slopes s a out) = Writes (slopes_no (doubles s) (doubles a) (count out)) (slope (doubles s) (doubles a)) (count s - 1) out
Holds (samples s a t x c out) =
    (list_counts (doubles t) (doubles x) ≡ c)
    × Writes (list_no (doubles s) (doubles a) (doubles t) (doubles x) (count out)) (list_station (doubles s) (doubles a) (doubles t) (doubles x)) (count x) out
Holds (grid s a t t0 dt c out) =
    (grid_counts (doubles s) (doubles a) (doubles t) (double t0) (double dt) true ≡ c)
    × Writes (grid_no (doubles s) (doubles a) (doubles t) (double t0) (double dt) true (count out)) (grid_entry (doubles s) (doubles a) (doubles t) (double t0) (double dt))
    (grid_entries (doubles s) (doubles a) (doubles t) (double t0) (double dt) true) out

abbrev pub AllHold : List Case → Type 0
AllHold [] = Unit
AllHold (c ∷ cs) = Holds c × AllHold cs

abbrev ten : ℕ
ten = 0x4024_0000_0000_0000

abbrev twelve : ℕ
twelve = 0x4028_0000_0000_0000

-- 0, 1, 3; 0, 4, 4; 10, 11, 12
abbrev knots : List ℕ
knots = 0 ∷ 0x3ff0_0000_0000_0000 ∷ 0x4008_0000_0000_0000 ∷ []

abbrev squares : List ℕ
squares = 0 ∷ 0x4010_0000_0000_0000 ∷ 0x4010_0000_0000_0000 ∷ []

abbrev stamps : List ℕ
stamps = ten ∷ 0x4026_0000_0000_0000 ∷ twelve ∷ []

abbrev pub starred : List Case
starred =
    -- root of 2^-1074 is 2^-537; root of 2 has pattern 3FF6A09E667F3BCD
    root 1 0x1e60_0000_0000_0000
    ∷ root 0x4000_0000_0000_0000 0x3ff6_a09e_667f_3bcd
    -- hypot(3, 4) = 5; hypot(2^-1074, 2^-1074) = 2^-1074
    ∷ length 0x4008_0000_0000_0000 0x4010_0000_0000_0000 0x4014_0000_0000_0000
    ∷ length 1 1 1
    -- fma(1 + 2^-52, 1 - 2^-52, -1) = -2^-104; rounded twice it would be 0
    ∷ fusion 0x3ff0_0000_0000_0001 0x3fef_ffff_ffff_fffe 0xbff0_0000_0000_0000 0xb970_0000_0000_0000
    -- no rows: 3, worst 0 and 0, tried 1
    ∷ recovery 0 [] (Ok (certified (double 0x4008_0000_0000_0000) (double 0) (double 0) 1))
    -- row (1, 0, 2), feas_tol 0: 2, 0, 0, tried 2
    ∷ recovery 0 (0x3ff0_0000_0000_0000 ∷ 0 ∷ 0x4000_0000_0000_0000 ∷ []) (Ok (certified (double 0x4000_0000_0000_0000) (double 0) (double 0) 2))
    -- row (2, 0, 4), feas_tol 0.25: 2.25, 0.25, 0.5, tried 2
    ∷ recovery 0x3fd0_0000_0000_0000 (0x4000_0000_0000_0000 ∷ 0 ∷ 0x4010_0000_0000_0000 ∷ [])
    (Ok (certified (double 0x4002_0000_0000_0000) (double 0x3fd0_0000_0000_0000) (double 0x3fe0_0000_0000_0000) 2))
    -- row (0, 0, -1): 6
    ∷ recovery 0 (0 ∷ 0 ∷ 0xbff0_0000_0000_0000 ∷ []) (Err 6)
    -- s 0, 1, 3; a 0, 4, 4; t0 10: times 10, 11, 12; b 2, 0
    ∷ times knots squares ten stamps
    ∷ slopes knots squares (0x4000_0000_0000_0000 ∷ 0 ∷ [])
    -- samples 9, 10, 10.5, 11, 11.5, 12, 12.5: NaN, 0, 0.25, 1, 2, 3, NaN; before 1, inside 5, past 1
    ∷ samples knots squares stamps (0x4022_0000_0000_0000 ∷ ten ∷ 0x4025_0000_0000_0000 ∷ 0x4026_0000_0000_0000 ∷ 0x4027_0000_0000_0000 ∷ twelve ∷ 0x4029_0000_0000_0000 ∷ [])
    (counts 1 5 1 7) (0x7ff8_0000_0000_0000 ∷ 0 ∷ 0x3fd0_0000_0000_0000 ∷ 0x3ff0_0000_0000_0000 ∷ 0x4000_0000_0000_0000 ∷ 0x4008_0000_0000_0000 ∷ 0x7ff8_0000_0000_0000 ∷ [])
    -- grid from 10 by 0.5 with final: 0, 0.25, 1, 2, 3
    ∷ grid knots squares stamps ten 0x3fe0_0000_0000_0000 (counts 0 4 0 5) (0 ∷ 0x3fd0_0000_0000_0000 ∷ 0x3ff0_0000_0000_0000 ∷ 0x4000_0000_0000_0000 ∷ 0x4008_0000_0000_0000 ∷ [])
    ∷ []
