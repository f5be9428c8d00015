-- One more halving, and one more neighbour: what the loops of the search keep.
use Rattle.std.proofs.Common.{ℕ, zero, suc, ◌+◌, ◌-◌, ◌≤◌, ◌<◌, arith, ◌≡◌, refl, sym, ap, ◌∙◌, Bool, true, false, Some, None, Ok, Err}
use lib.Ieee.{Float, binary64, lt}
use Rattle.number.specs.Leaves.{next_down}
use Rattle.number.proofs.Order.{fails}
use Rattle.limits.specs.declared.projection.Span.{Span}
use Rattle.certificates.specs.Certificate.{Certificate}
use Rattle.certificates.specs.declared.certificate.Figures.{Figures}
use Rattle.certificates.proofs.Verdicts.{verdict}
use Rattle.search.specs.Answer.{Answer, certified}
use Rattle.search.specs.Search.{Asked, Ends, middle, stops, replaced, halved, halvings, certified_by, after_middle, with_middle, try_middle, neighbours}
use Rattle.search.specs.OnTable.{meet, moved, halved_sides, normalized_in, raw_in, ends_on, halved_all}
use Rattle.search.specs.declared.halving.Sides.{Sides}
use Rattle.search.specs.declared.neighbours.Near.TheVariants.{Found, ToMiddle}

module _ (cert : Asked) where
  pub halvings_on : (n : ℕ) (e : Ends) → 0 < n → stops e ≡ false → halvings cert n (stops e) e ≡ halvings cert (n - 1) (stops (halved cert e)) (halved cert e)
  unfolding halvings
  halvings_on zero e h k = absurd (omega arith)
  halvings_on (suc n) e h k = let d : suc n - 1 ≡ n = omega arith in rw (k, d)

  pub halvings_stop : (n : ℕ) (e : Ends) → stops e ≡ true → halvings cert n (stops e) e ≡ e
  unfolding halvings
  halvings_stop zero e k = refl
  halvings_stop (suc n) e k = rw k

  pub halvings_done : (n : ℕ) (b : Bool) (e : Ends) → n ≤ 0 → halvings cert n b e ≡ e
  unfolding halvings
  halvings_done zero b e h = refl
  halvings_done (suc n) b e h = absurd (omega arith)

  replaced_tried : (e : Ends) (m : Float) (c : Certificate) → (replaced e m c).tried ≡ e.tried + 1
  unfolding replaced
  replaced_tried e m (Some f) = refl
  replaced_tried e m None = refl

  pub halved_tried : (e : Ends) → (halved cert e).tried ≡ e.tried + 1
  unfolding halved
  halved_tried e = let m = middle e.passing e.rejected in replaced_tried e m (cert m)

  -- ---- halvings without figures
  pub meet_stops : (s : Sides) → meet s ≡ stops (ends_on cert s)
  unfolding meet stops
  meet_stops s = refl

  module _ (passes : Float → Bool) (same : (x : Float) → verdict (cert x) ≡ passes x) where
    -- a halving of the ends is one of their sides
    pub sides_halved : (s : Sides) → halved cert (ends_on cert s) ≡ ends_on cert (halved_sides passes s)
    unfolding halved replaced halved_sides moved
    sides_halved s =
        let m = middle s.passing s.rejected in
        rw (← same m) (go m (cert m) refl)
      where
        go : (m : Float) (c : Certificate) → cert m ≡ c → replaced (ends_on cert s) m c ≡ ends_on cert (moved s m (verdict c))
        go m (Some f) e = rw e
        go m None e = refl

    pub sides_pass : (s : Sides) → passes s.passing ≡ true → passes (halved_sides passes s).passing ≡ true
    unfolding halved_sides moved
    sides_pass s h = let m = middle s.passing s.rejected in go m (passes m) refl
      where
        go : (m : Float) (b : Bool) → passes m ≡ b → passes (moved s m b).passing ≡ true
        go m true e = e
        go m false e = h

  pub sides_tried : (passes : Float → Bool) (s : Sides) → (halved_sides passes s).tried ≡ s.tried + 1
  unfolding halved_sides moved
  sides_tried passes s = go (passes (middle s.passing s.rejected))
    where
      go : (b : Bool) → (moved s (middle s.passing s.rejected) b).tried ≡ s.tried + 1
      go true = refl
      go false = refl

  -- the last passing end, certified
  pub end_certified : (s start : Sides) (f : Figures) → ends_on cert s ≡ halved_all cert start → cert s.passing ≡ Some f
      → Ok (certified s.passing f.worst_normalized f.worst_raw s.tried) ≡ after_middle cert (ends_on cert start)
  unfolding after_middle
  end_certified s start f h e = ap answer (sym e) ∙ ap certified_by h
    where
      answer : Certificate → Answer
      answer c = Ok (certified s.passing (normalized_in c) (raw_in c) s.tried)

  -- ---- the middle
  module _ (s : Span) (t : ℕ) where
    abbrev start : Sides
    start = record { passing = middle s.low s.high; rejected = s.high; tried = t + 1 }

    pub middle_passed : verdict (cert start.passing) ≡ true → after_middle cert (ends_on cert start) ≡ try_middle cert s t
    unfolding try_middle with_middle
    middle_passed h = go (cert start.passing) h
      where
        go : (c : Certificate) → verdict c ≡ true
            → after_middle cert (record { passing = start.passing; worst_normalized = normalized_in c; worst_raw = raw_in c; rejected = s.high; tried = t + 1 })
            ≡ with_middle cert s t c
        go (Some f) h = refl
        go None h = absurd (fails (sym h) tt)

    pub middle_failed : verdict (cert start.passing) ≡ false → Err 9 ≡ try_middle cert s t
    unfolding try_middle with_middle
    middle_failed h = go (cert start.passing) h
      where
        go : (c : Certificate) → verdict c ≡ false → Err 9 ≡ with_middle cert s t c
        go (Some f) h = absurd (fails h tt)
        go None h = refl

  -- ---- neighbours: 6 less those that were tried are left
  module _ (low : Float) where
    pub near_below : (n : ℕ) (b : Bool) (c : Certificate) (x : Float) (t : ℕ) → b ≡ true → neighbours cert low n b c x t ≡ ToMiddle t
    unfolding neighbours
    near_below zero b c x t e = refl
    near_below (suc n) b c x t e = rw e

    pub near_end : (n : ℕ) (b : Bool) (c : Certificate) (x : Float) (t : ℕ) → n ≤ 0 → neighbours cert low n b c x t ≡ ToMiddle t
    unfolding neighbours
    near_end zero b c x t h = refl
    near_end (suc n) b c x t h = absurd (omega arith)

    pub near_found : (n : ℕ) (b : Bool) (c : Certificate) (x : Float) (t : ℕ) (f : Figures) → 0 < n → b ≡ false → c ≡ Some f
        → neighbours cert low n b c x t ≡ Found (certified x f.worst_normalized f.worst_raw (t + 1))
    unfolding neighbours
    near_found zero b c x t u h e f = absurd (omega arith)
    near_found (suc n) b c x t u h e f = rw (e, f)

    pub near_on : (n : ℕ) (b : Bool) (c : Certificate) (x : Float) (t : ℕ) → 0 < n → b ≡ false → c ≡ None
        → neighbours cert low n b c x t ≡ neighbours cert low (n - 1) (lt (next_down binary64 x) low) (cert (next_down binary64 x)) (next_down binary64 x) (t + 1)
    unfolding neighbours
    near_on zero b c x t h e f = absurd (omega arith)
    near_on (suc n) b c x t h e f = let d : suc n - 1 ≡ n = omega arith in rw (e, f, d)
