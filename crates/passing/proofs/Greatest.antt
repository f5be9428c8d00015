-- Demand 3: "If its speed isn't the cap and the projected upper end is at least 2^-1021, that speed is the greatest passing double not above that end." Assumes nothing.
use Rattle.std.proofs.Common.{◌≡◌, refl, sym, subst, Ok, Err, inl, inr, List, false, not, ℕ, ◌+◌, ◌^◌, T, T_not, lit≤}
use lib.Ieee.{Float, binary64, le, lt, fits}
use lib.Ieee.Scale.{finite}
use Rattle.number.specs.Leaves.{next_down}
use Rattle.number.specs.Units.{units_of}
use Rattle.number.proofs.Order.{fails, nought, number, finite_number, le_number, lt_number, lt_le, le_reflexive, le_transitive, lt_or_le, between_finite}
use Rattle.number.proofs.Neighbour.{next_fits, next_less, next_nearest}
use Rattle.rows.specs.Rows.{Row, rows_of}
use Rattle.limits.specs.Bounds.{upper}
use Rattle.limits.specs.Projection.{projected}
use Rattle.certificates.specs.Certificate.{passes, certificate}
use Rattle.search.specs.Search.{Ends, middle}
use Rattle.topp2_ra.specs.Recovery.{recovered}
use Rattle.limits.specs.declared.request.Request.{Request}
use Rattle.search.specs.Answer.{Answer, certified}
use Rattle.limits.specs.declared.projection.Span.{Span}
use Rattle.rows.proofs.Within.{finite_above}
use Rattle.passing.specs.Demand.{Doubles, smallest, Greatest}
use Rattle.passing.proofs.NoGap.{zero_is, passes_between, no_gap}
use Rattle.passing.proofs.Brought.{high_fits, low_from_zero}
use Rattle.passing.proofs.Gaps.{Gap}
use Rattle.certificates.proofs.Verdicts.{passed, failed}
use Rattle.passing.proofs.Ways.{Ways, by_recovery}
use Rattle.passing.proofs.Bracket.{middle_is, Bracket, Ended, Carried, carried_on, carried_end}
use Rattle.passing.proofs.Start.{middle_upto, first_gap}

module _ (q : Request) (rows : List Row) where
  abbrev s : Span
  s = projected q rows

  abbrev low : Float
  low = s.low

  abbrev high : Float
  high = s.high

  passing_number : (x : Float) → T (passes q rows x) → T (number x)
  passing_number x p = finite_number x (passes_between q rows x p).is_finite

  -- what passes and is not above what fails is below it: between equals there is no gap either
  below_rejected : (x y : Float) → T (not (passes q rows x)) → T (passes q rows y) → T (le y x) → T (lt y x)
  below_rejected x y f p h = elim (lt_or_le y x (le_number y x h).0 (le_number y x h).1) [ inl l ↦ l | inr g ↦ absurd (T_not (passes q rows x) f (no_gap q rows y x y h g p p)) ]

  -- a certified speed that is not the cap is the greatest
  abbrev Answers : Answer → Type 0
  Answers (Ok c) = (c.speed ≡ upper q → ⊥) → Greatest q rows c.speed
  Answers (Err k) = Unit

  in_order : T (finite low) → T (finite high) → T (not (lt high low)) → T (le low high)
  in_order L F o = elim (lt_or_le high low (finite_number high F) (finite_number low L)) [ inl l ↦ absurd (T_not (lt high low) o l) | inr g ↦ g ]

  module _ (D : Doubles q) (large : T (le smallest high)) (L : T (finite low)) (F : T (finite high)) (order : T (le low high)) where
    -- ---- by halving

    -- a passing double above the passing end would lie between the ends, where none is, or from the rejected end up, and then that would pass too
    ended_greatest : (e : Ends) → Ended q rows high e → Greatest q rows e.passing
    ended_greatest e E = record {
      passing = E.passing_passes;
      not_above = le_transitive e.passing e.rejected high (lt_le e.passing e.rejected E.order) E.upto_high;
      greatest = λ y G p h. elim (lt_or_le e.passing y (lt_number e.passing e.rejected E.order).0 (passing_number y p)) [
        | inr g ↦ g
        | inl l ↦ elim (lt_or_le y e.rejected (passing_number y p) (lt_number e.passing e.rejected E.order).1) [
          | inl k ↦ absurd (E.empty y G l k)
          | inr k ↦
              let less = lt_le e.passing e.rejected E.order in
              let also = no_gap q rows e.passing e.rejected y less k E.passing_passes p in
              absurd (T_not (passes q rows e.rejected) E.rejected_fails also)
        ]
      ];
    }

    start : (n r : Float) (t : ℕ) → T (not (passes q rows high)) → T (passes q rows (middle low high))
        → Bracket q rows high (units_of binary64 (middle low high))
        (record { passing = middle low high; worst_normalized = n; worst_raw = r; rejected = high; tried = t }) (2 ^ 53)
    start n r t f p =
        let from_zero : T (le nought low) = subst (λ (x : Float). T (le x low)) zero_is (low_from_zero q D rows) in
        let fit = high_fits q D rows in
        let upto : T (le (middle low high) high) = subst (λ (x : Float). T (le x high)) (sym (middle_is low high)) (middle_upto low high L F fit from_zero order large) in
        let l = below_rejected high (middle low high) f p upto in
        record {
          gap =
              subst (λ (x : Float). Gap binary64 (units_of binary64 x) x high (2 ^ 53)) (sym (middle_is low high))
              (first_gap low high L F fit from_zero order large (subst (λ (x : Float). T (lt x high)) (middle_is low high) l));
          passing_passes = p;
          rejected_fails = f;
          upto_high = le_reflexive high (finite_number high F);
        }

    -- ---- by neighbours

    -- x is a double not above high, and what passes, up to high, is not above x
    record Upto (x : Float) : Type 0 where
      fit : T (fits binary64 x)
      not_above : T (le x high)
      covers : (y : Float) → T (fits binary64 y) → T (passes q rows y) → T (le y high) → T (le y x)

    -- "the next smaller double": none lies between
    next : (x : Float) → Upto x → T (le low x) → T (not (passes q rows x)) → Upto (next_down binary64 x)
    next x U l f =
        let y = next_down binary64 x in
        let less = next_less binary64 x U.fit (finite_above x (between_finite low x high L F l U.not_above)) in
        record {
          fit = next_fits binary64 x U.fit;
          not_above = le_transitive y x high (lt_le y x less) U.not_above;
          covers = λ v G p h. elim (lt_or_le y v (lt_number y x less).0 (passing_number v p)) [
            | inl k ↦ absurd (next_nearest binary64 x v U.fit G k (below_rejected x v f p (U.covers v G p h)))
            | inr k ↦ k
          ];
        }

    from_low : (x : Float) → Upto x → lt x low ≡ false → T (le low x)
    from_low x U b = elim (lt_or_le x low (le_number x high U.not_above).0 (finite_number low L)) [ inl l ↦ absurd (fails b l) | inr g ↦ g ]

    found : (x : Float) → T (passes q rows x) → Upto x → Greatest q rows x
    found x p U = record { passing = p; not_above = U.not_above; greatest = U.covers }

    ways : Ways (certificate q rows) s Answers
    ways = record {
      Trying = λ x t. Upto x;
      Halving = Carried q rows high;
      first = record { fit = high_fits q D rows; not_above = le_reflexive high (finite_number high F); covers = λ y G p h. h };
      next = λ x t U b f. next x U (from_low x U b) (failed q rows x f);
      found = λ x n r t U e a b cap. found x (passed q rows x _ e) U;
      start = λ n r t f e a b. (units_of binary64 (middle low high), 2 ^ 53, start n r (t + 1) (failed q rows high f) (passed q rows (middle low high) _ e), lit≤ tt);
      halve = carried_on q rows high;
      ended = λ k e w b cap. ended_greatest e (carried_end q rows high k e w b);
    }

-- "that speed is the greatest passing double not above that end"
pub greatest : (q : Request) (l : List Float) (x n r : Float) (t : ℕ) → Doubles q → recovered q l ≡ Ok (certified x n r t)
    → (x ≡ upper q → ⊥) → T (le smallest (projected q (rows_of l)).high) → Greatest q (rows_of l) x
greatest q l x n r t D e cap large =
    let rows = rows_of l in
    subst (Answers q rows) e (by_recovery (Answers q rows) (λ k. tt) q l (λ n r c is-cap. absurd (is-cap refl)) (λ L F o. ways q rows D large L F (in_order q rows L F o))) cap
