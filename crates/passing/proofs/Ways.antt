-- The ways to an answer, walked once: what holds of every refusal, of a cap that passed and of each step of the search holds of the answer. Assumes nothing.
use Rattle.std.proofs.Common.{ℕ, zero, suc, ◌+◌, ◌≤◌, ◌≡◌, refl, ◌⊎◌, inl, inr, Some, None, Ok, Err, List, Bool, true, false, not, ◌&&◌, cond, arith, T}
use lib.Ieee.{Float, binary64, lt}
use lib.Ieee.Fits.{and_l, and_r}
use lib.Ieee.Scale.{finite}
use Rattle.number.specs.Leaves.{next_down}
use Rattle.refusals.specs.Outcome.{answered}
use Rattle.rows.specs.Rows.{Row, rows_of, any}
use Rattle.limits.specs.Bounds.{upper}
use Rattle.limits.specs.Projection.{unreachable, flat, projected}
use Rattle.limits.specs.declared.request.Request.{Request}
use Rattle.limits.specs.declared.projection.Span.{Span}
use Rattle.certificates.specs.Certificate.{figures, Certificate, certificate}
use Rattle.search.specs.Search.{Asked, Ends, neighbours, try_neighbours, middle, stops, halved, halvings, certified_by}
use Rattle.search.specs.Search.{after_middle, with_middle, try_middle, after_neighbours, in_order, searched}
use Rattle.search.specs.Cap.{after_cap, with_cap}
use Rattle.search.specs.Answer.{Answer, certified}
use Rattle.topp2_ra.specs.Recovery.{recovery_no, recovered}

-- the ends from which the halvings start, after t candidates
abbrev pub start_of : Span → Float → Float → ℕ → Ends
start_of s n r t = record { passing = middle s.low s.high; worst_normalized = n; worst_raw = r; rejected = s.high; tried = t + 1 }

-- What is to be shown of the steps after refusal 8, so that P holds of the answer. Trying x t: x is the next neighbour, t candidates were tried.
-- Halving k e: the halvings have come to the ends e, and k at most are left.
pub record Ways (cert : Asked) (s : Span) (P : Answer → Type 0) : Type 1 where
  pub Trying : Float → ℕ → Type 0
  pub Halving : ℕ → Ends → Type 0
  pub first : Trying s.high 1
  pub next : (x : Float) (t : ℕ) → Trying x t → lt x s.low ≡ false → cert x ≡ None → Trying (next_down binary64 x) (t + 1)
  pub found : (x n r : Float) (t : ℕ) → Trying x t → cert x ≡ Some (figures n r) → 1 ≤ t → t ≤ 5 → P (Ok (certified x n r (t + 1)))
  pub start : (n r : Float) (t : ℕ) → cert s.high ≡ None → cert (middle s.low s.high) ≡ Some (figures n r) → 1 ≤ t → t ≤ 6 → Halving 64 (start_of s n r t)
  pub halve : (k : ℕ) (e : Ends) → Halving (suc k) e → stops e ≡ false → Halving k (halved cert e)
  pub ended : (k : ℕ) (e : Ends) → Halving k e → (k ≡ 0) ⊎ (stops e ≡ true) → P (certified_by e)

module _ (P : Answer → Type 0) (refused : (k : ℕ) → P (Err (suc k))) where
  either : (b : Bool) (x y : Answer) → (T b → P x) → (T (not b) → P y) → P (cond b x y)
  either true x y h k = h tt
  either false x y h k = k tt

  module _ (cert : Asked) (s : Span) (W : Ways cert s P) where
    by_halvings : (k : ℕ) (b : Bool) (e : Ends) → stops e ≡ b → W.Halving k e → P (certified_by (halvings cert k b e))
    unfolding halvings
    by_halvings zero b e h w = W.ended 0 e w (inl refl)
    by_halvings (suc k) true e h w = W.ended (suc k) e w (inr h)
    by_halvings (suc k) false e h w = by_halvings k (stops (halved cert e)) (halved cert e) refl (W.halve k e w h)

    by_middle : (t : ℕ) → cert s.high ≡ None → 1 ≤ t → t ≤ 6 → P (try_middle cert s t)
    unfolding try_middle with_middle after_middle
    by_middle t f l h = go (cert (middle s.low s.high)) refl
      where
        go : (c : Certificate) → cert (middle s.low s.high) ≡ c → P (with_middle cert s t c)
        go None e = refused 8
        go (Some c) e =
            let start = start_of s c.worst_normalized c.worst_raw t in by_halvings 64 (stops start) start refl (W.start c.worst_normalized c.worst_raw t f e l h)

    by_neighbours : (n : ℕ) (b : Bool) (c : Certificate) (x : Float) (t : ℕ) → lt x s.low ≡ b → cert x ≡ c → cert s.high ≡ None → W.Trying x t → 1 ≤ t → t + n ≤ 6
        → P (after_neighbours cert s (neighbours cert s.low n b c x t))
    unfolding neighbours
    by_neighbours zero b c x t e v f w l h = by_middle t f l (omega arith)
    by_neighbours (suc n) true c x t e v f w l h = by_middle t f l (omega arith)
    by_neighbours (suc n) false (Some c) x t e v f w l h = W.found x c.worst_normalized c.worst_raw t w v l (omega arith)
    by_neighbours (suc n) false None x t e v f w l h =
        let y = next_down binary64 x in
        by_neighbours n (lt y s.low) (cert y) y (t + 1) refl refl f (W.next x t w e v) (omega arith) (omega arith)

    -- the projected upper end is the first of them
    by_first : T (not (lt s.high s.low)) → P (after_neighbours cert s (try_neighbours cert s))
    unfolding try_neighbours neighbours
    by_first o = go (lt s.high s.low) refl (cert s.high) refl o
      where
        go : (b : Bool) → lt s.high s.low ≡ b → (c : Certificate) → cert s.high ≡ c → T (not b) → P (after_neighbours cert s (neighbours cert s.low 5 b c s.high 1))
        go true e c v o = absurd o
        go false e (Some c) v o = W.found s.high c.worst_normalized c.worst_raw 1 W.first v (omega arith) (omega arith)
        go false e None v o =
            let y = next_down binary64 s.high in
            by_neighbours 4 (lt y s.low) (cert y) y 2 refl refl v (W.next s.high 1 W.first e v) (omega arith) (omega arith)

  by_search : (cert : Asked) (s : Span) → (T (finite s.low) → T (finite s.high) → T (not (lt s.high s.low)) → Ways cert s P) → P (searched cert s)
  unfolding searched
  by_search cert s W =
      let b = finite s.high && not (lt s.high s.low) in
      either (in_order s) (after_neighbours cert s (try_neighbours cert s)) (Err 8)
      (λ t.
      let u = and_r (finite s.low) b t in
      let o = and_r (finite s.high) (not (lt s.high s.low)) u in
      by_first cert s (W (and_l (finite s.low) b t) (and_l (finite s.high) (not (lt s.high s.low)) u) o) o)
      (λ t. refused 7)

  -- the cap that passed, and the search
  pub by_recovery : (q : Request) (l : List Float) → ((n r : Float) → certificate q (rows_of l) (upper q) ≡ Some (figures n r) → P (Ok (certified (upper q) n r 1)))
      → (T (finite (projected q (rows_of l)).low) → T (finite (projected q (rows_of l)).high) → T (not (lt (projected q (rows_of l)).high (projected q (rows_of l)).low))
      → Ways (certificate q (rows_of l)) (projected q (rows_of l)) P)
      → P (recovered q l)
  unfolding recovered with_cap after_cap
  by_recovery q l cap W = numbered (recovery_no q l) (capped (certificate q rows (upper q)) refl)
    where
      rows : List Row
      rows = rows_of l

      numbered : (k : ℕ) {x : Answer} → P x → P (answered x Err k)
      numbered zero h = h
      numbered (suc k) h = refused k

      capped : (c : Certificate) → certificate q rows (upper q) ≡ c → P (after_cap q rows c)
      capped (Some c) e = cap c.worst_normalized c.worst_raw e
      capped None e =
          either (any (unreachable q.tolerances.feas q.a_prev) rows) (Err 7) _ (λ t. refused 6)
          (λ t. either (any (flat q.tolerances.feas q.a_prev) rows) (Err 8) _ (λ t. refused 7) (λ t. by_search (certificate q rows) (projected q rows) W))
