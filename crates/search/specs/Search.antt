-- The steps after a cap that failed and the projection, in 01's order: neighbours, middle, halvings.
use Rattle.std.specs.Prelude.{ℕ, zero, suc, ◌+◌, Bool, true, false, not, ◌&&◌, ◌||◌, cond, Some, None, Ok, Err, Float}
use Rattle.std.specs.Float.{binary64}
use Rattle.std.specs.Float.Ieee.{lt, eq}
use Rattle.std.specs.Float.Ieee.Scale.{finite}
use Rattle.number.specs.Leaves.{next_down}
use Rattle.number.specs.Doubles.{half, ◌⊕◌, ◌⊗◌}
use Rattle.limits.specs.declared.projection.Span.{Span}
use Rattle.certificates.specs.Certificate.{Certificate}
use Rattle.search.specs.Answer.{Answer, certified}
use Rattle.search.specs.declared.neighbours.Near.{Near}
use Rattle.search.specs.declared.neighbours.Near.TheVariants.{Found, ToMiddle}

-- ---- the search asks for certificates and nothing else
abbrev pub Asked : Type 0
Asked = Float → Certificate

-- ---- neighbours: n candidates from x down, "stopping below the projected lower end"; t were tried before. The Bool says whether x lies below that end.
unfoldable pub neighbours : Asked → Float → ℕ → Bool → Certificate → Float → ℕ → Near
neighbours cert low zero below c x t = ToMiddle t
neighbours cert low (suc n) true c x t = ToMiddle t
neighbours cert low (suc n) false (Some f) x t = Found (certified x f.worst_normalized f.worst_raw (t + 1))
neighbours cert low (suc n) false None x t =
    let y = next_down binary64 x in
    neighbours cert low n (lt y low) (cert y) y (t + 1)

-- the projected upper end and up to four next-down doubles; the cap was tried before
unfoldable pub try_neighbours : Asked → Span → Near
try_neighbours cert s = neighbours cert s.low 5 (lt s.high s.low) (cert s.high) s.high 1

-- ---- halvings
-- the ends: one that passes, with its figures, and one that is rejected
pub record Ends : Type 0 where
  pub passing : Float
  pub worst_normalized : Float
  pub worst_raw : Float
  pub rejected : Float
  pub tried : ℕ

abbrev pub middle : Float → Float → Float
middle x y = half ⊗ x ⊕ half ⊗ y

-- "they stop when a midpoint, left untried, equals an end"
unfoldable pub stops : Ends → Bool
stops e = eq (middle e.passing e.rejected) e.passing || eq (middle e.passing e.rejected) e.rejected

-- "each midpoint replacing the end it agrees with"
unfoldable pub replaced : Ends → Float → Certificate → Ends
replaced e m (Some f) = record { passing = m; worst_normalized = f.worst_normalized; worst_raw = f.worst_raw; rejected = e.rejected; tried = e.tried + 1 }
replaced e m None = record { passing = e.passing; worst_normalized = e.worst_normalized; worst_raw = e.worst_raw; rejected = m; tried = e.tried + 1 }

unfoldable pub halved : Asked → Ends → Ends
halved cert e = let m = middle e.passing e.rejected in replaced e m (cert m)

-- at most n halvings; the Bool says whether they stop here
unfoldable pub halvings : Asked → ℕ → Bool → Ends → Ends
halvings cert zero b e = e
halvings cert (suc n) true e = e
halvings cert (suc n) false e = halvings cert n (stops (halved cert e)) (halved cert e)

abbrev pub certified_by : Ends → Answer
certified_by e = Ok (certified e.passing e.worst_normalized e.worst_raw e.tried)

-- what follows a middle that passes: at most 64 halvings between it and the rejected upper end. "The passing end is the speed."
unfoldable pub after_middle : Asked → Ends → Answer
after_middle cert e = certified_by (halvings cert 64 (stops e) e)

-- ---- the middle, which is candidate number t + 1; refusal 9 where it fails
unfoldable pub with_middle : Asked → Span → ℕ → Certificate → Answer
with_middle cert s t None = Err 9
with_middle cert s t (Some f) =
    after_middle cert
    (record { passing = middle s.low s.high; worst_normalized = f.worst_normalized; worst_raw = f.worst_raw; rejected = s.high; tried = t + 1 })

unfoldable pub try_middle : Asked → Span → ℕ → Answer
try_middle cert s t = with_middle cert s t (cert (middle s.low s.high))

-- ---- the whole
abbrev pub after_neighbours : Asked → Span → Near → Answer
after_neighbours cert s (Found c) = Ok c
after_neighbours cert s (ToMiddle t) = try_middle cert s t

-- refusal 8, of the projected ends: not finite, or low > high
abbrev pub in_order : Span → Bool
in_order s = finite s.low && (finite s.high && not (lt s.high s.low))

unfoldable pub searched : Asked → Span → Answer
searched cert s = cond (in_order s) (after_neighbours cert s (try_neighbours cert s)) (Err 8)
