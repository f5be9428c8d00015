-- Whatever recovery certifies passes, and is a double; no refusal has the number 0; and from 1 to 71 candidates are tried:
-- the cap, up to five from the projected end down, the middle, and at most 64 halvings. Assumes nothing.
use Rattle.std.proofs.Common.{ℕ, zero, suc, ◌+◌, ◌≤◌, ◌≡◌, refl, subst, Some, None, Ok, Err, List, arith, T}
use lib.Ieee.{Float, binary64, fits}
use lib.Ieee.Fits.{add-fits}
use Rattle.number.specs.Leaves.{next_down}
use Rattle.number.proofs.Neighbour.{next_fits}
use Rattle.rows.specs.Rows.{Row, rows_of}
use Rattle.limits.specs.Bounds.{upper}
use Rattle.limits.specs.Projection.{projected}
use Rattle.limits.specs.declared.request.Request.{Request}
use Rattle.certificates.specs.Certificate.{passes, figures, Certificate, certificate}
use Rattle.search.specs.Search.{Asked, Ends, middle, replaced, halved}
use Rattle.search.specs.Answer.{Answer, certified}
use Rattle.search.proofs.Turns.{halved_tried}
use Rattle.topp2_ra.specs.Recovery.{recovered}
use Rattle.passing.specs.Demand.{Doubles, Sound}
use Rattle.certificates.proofs.Verdicts.{passed}
use Rattle.passing.proofs.Brought.{upper_fits, high_fits}
use Rattle.passing.proofs.Ways.{by_recovery}
use Rattle.passing.proofs.Reports.{Reported}

-- the passing end after a halving: the midpoint, where it passes, or the end that it was
replaced_end : (Q : Float → Type 0) (e : Ends) (m : Float) (c : Certificate) → ((n r : Float) → c ≡ Some (figures n r) → Q m) → Q e.passing → Q (replaced e m c).passing
unfolding replaced
replaced_end Q e m (Some f) h k = h f.worst_normalized f.worst_raw refl
replaced_end Q e m None h k = k

halved_end : (Q : Float → Type 0) (cert : Asked) (e : Ends)
    → ((n r : Float) → cert (middle e.passing e.rejected) ≡ Some (figures n r) → Q (middle e.passing e.rejected)) → Q e.passing
    → Q (halved cert e).passing
unfolding halved
halved_end Q cert e h k = let m = middle e.passing e.rejected in replaced_end Q e m (cert m) h k

-- of the speed, where there is one
abbrev Speed : (Float → Type 0) → Answer → Type 0
Speed Q (Ok c) = Q c.speed
Speed Q (Err k) = Unit

module _ (q : Request) (l : List Float) where
  abbrev rows : List Row
  rows = rows_of l

  -- what every candidate has that passes, among those that have R, as the cap, the projected end, all neighbours and all midpoints have
  speed_has : (Q R : Float → Type 0) → ((x n r : Float) → R x → certificate q rows x ≡ Some (figures n r) → Q x) → R (upper q) → R (projected q rows).high
      → ((x : Float) → R x → R (next_down binary64 x)) → ((x y : Float) → R (middle x y)) → Speed Q (recovered q l)
  speed_has Q R is cap high next mid =
      by_recovery (Speed Q) (λ k. tt) q l (λ n r e. is (upper q) n r cap e) (λ L F o. record {
        Trying = λ x t. R x;
        Halving = λ k e. Q e.passing;
        first = high;
        next = λ x t w b f. next x w;
        found = λ x n r t w e a b. is x n r w e;
        start = λ n r t f e a b. is (middle (projected q rows).low (projected q rows).high) n r (mid (projected q rows).low (projected q rows).high) e;
        halve = λ k e w b. halved_end Q (certificate q rows) e (λ n r c. is (middle e.passing e.rejected) n r (mid e.passing e.rejected) c) w;
        ended = λ k e w b. w;
      })

  passing : Speed (λ x. T (passes q rows x)) (recovered q l)
  passing = speed_has (λ x. T (passes q rows x)) (λ x. Unit) (λ x n r u e. passed q rows x _ e) tt tt (λ x u. tt) (λ x y. tt)

  double : Doubles q → Speed (λ x. T (fits binary64 x)) (recovered q l)
  double D =
      speed_has (λ x. T (fits binary64 x)) (λ x. T (fits binary64 x)) (λ x n r w e. w)
      (upper_fits q D) (high_fits q D rows) (λ x w. next_fits binary64 x w) (λ x y. add-fits binary64 _ _)

  abbrev TriedIn : Answer → Type 0
  TriedIn (Ok c) = (1 ≤ c.tried) × (c.tried ≤ 71)
  TriedIn (Err k) = Unit

  tried_in : TriedIn (recovered q l)
  tried_in =
      by_recovery TriedIn (λ k. tt) q l (λ n r e. (omega arith, omega arith)) (λ L F o. record {
        Trying = λ x t. Unit;
        Halving = λ k e. (1 ≤ e.tried) × (e.tried + k ≤ 71);
        first = tt;
        next = λ x t w b f. tt;
        found = λ x n r t w e a b. (omega arith, omega arith);
        start = λ n r t f e a b. (omega arith, omega arith);
        halve = λ k e w b. (omega (arith, halved_tried (certificate q rows) e), omega (arith, halved_tried (certificate q rows) e));
        ended = λ k e w b. (w.0, omega arith);
      })

  abbrev Numbered : Answer → Type 0
  Numbered (Ok c) = Unit
  Numbered (Err zero) = ⊥
  Numbered (Err (suc k)) = Unit

  numbered : Numbered (recovered q l)
  numbered =
      by_recovery Numbered (λ k. tt) q l (λ n r e. tt) (λ L F o. record {
        Trying = λ x t. Unit;
        Halving = λ k e. Unit;
        first = tt;
        next = λ x t w b f. tt;
        found = λ x n r t w e a b. tt;
        start = λ n r t f e a b. tt;
        halve = λ k e w b. tt;
        ended = λ k e w b. tt;
      })

  -- no refusal has the number 0
  pub refusal_numbered : recovered q l ≡ Err 0 → ⊥
  refusal_numbered e = subst Numbered e numbered

  pub speed_double : (x n r : Float) (t : ℕ) → Doubles q → recovered q l ≡ Ok (certified x n r t) → T (fits binary64 x)
  speed_double x n r t D e = subst (Speed (λ x. T (fits binary64 x))) e (double D)

  pub sound : (number speed tried : ℕ) → Reported q l number speed tried → Sound q l number speed tried
  sound number speed tried R = record {
    passing = λ z. subst (Speed (λ x. T (passes q rows x))) (R z).2 passing;
    tried_in = λ z. subst TriedIn (R z).2 tried_in;
  }
