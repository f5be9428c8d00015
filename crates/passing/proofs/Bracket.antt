-- The halvings of recovery: they start between the middle, which passes, and the projected upper end, which was rejected,
-- and end with a passing double and a rejected one that have no double between them. Assumes nothing.
use Rattle.std.proofs.Common.{◌≡◌, refl, sym, ap, subst, Some, None, ◌⊎◌, inl, inr, List, Bool, true, false, not, ◌||◌, ℕ, suc, ◌+◌, ◌^◌, ◌≤◌, T, T_not}
use lib.Ieee.{Float, binary64, prec, size, of_bits, add, mul, le, lt, eq, fits}
use lib.Ieee.Positive.{between}
use Rattle.number.proofs.Fractions.{or_l, or_r, or_split}
use Rattle.number.proofs.Order.{holds, fails, le_number, lt_le, eq_le, eq_ge, le_transitive, le_antisymmetric, lt_not_le, lt_or_le}
use Rattle.rows.specs.Rows.{Row}
use Rattle.number.specs.Doubles as doubles
use Rattle.certificates.specs.Certificate.{passes, Certificate, certificate}
use Rattle.search.specs.Search.{Ends, middle, stops, replaced, halved}
use Rattle.limits.specs.declared.request.Request.{Request}
use Rattle.passing.proofs.Digits.{rnd}
use Rattle.passing.proofs.Mean.{bound, settle}
use Rattle.passing.proofs.Middle.{half, mean}
use Rattle.passing.proofs.Gaps.{NoneBetween, Gap, one_step, from_lower, upto_upper, inside, gap_above, gap_below}
use Rattle.certificates.proofs.Verdicts.{verdict, verdict_is}

-- the program's 1/2, and so its midpoint
half_is : doubles.half ≡ half
unfolding of_bits
half_is = refl

pub middle_is : (x y : Float) → middle x y ≡ mean binary64 x y
middle_is x y = ap (λ (h : Float). add binary64 (mul binary64 h x) (mul binary64 h y)) half_is

-- 2 ^ 53 + 1 has a digit too many: the tie goes to the even one
tie : rnd (prec binary64) (2 ^ prec binary64 + 1) ≡ 2 ^ prec binary64
unfolding size
tie = refl

-- ---- "they stop when a midpoint, left untried, equals an end"

module _ (z : ℕ) (e : Ends) (t : ℕ) (G : Gap binary64 z e.passing e.rejected t) where
  abbrev x : Float
  x = e.passing

  abbrev y : Float
  y = e.rejected

  abbrev m : Float
  m = middle x y

  -- then nothing lies between
  stopped : T (stops e) → NoneBetween binary64 x y
  unfolding stops
  stopped h g H l k =
      let i : T (lt x m) × T (lt m y) = subst (λ (v : Float). T (lt x v) × T (lt v y)) (sym (middle_is x y)) (inside binary64 tie z x y t G g H l k) in
      elim (or_split (eq m x) (eq m y) h) [ inl u ↦ lt_not_le x m i.0 (eq_le m x u) | inr u ↦ lt_not_le m y i.1 (eq_ge m y u) ]

  -- else the midpoint lies strictly between
  going : T (not (stops e)) → T (lt x m) × T (lt m y)
  unfolding stops
  going h =
      let a : T (le x m) = subst (λ (v : Float). T (le x v)) (sym (middle_is x y)) (from_lower binary64 tie z x y t G) in
      let b : T (le m y) = subst (λ (v : Float). T (le v y)) (sym (middle_is x y)) (upto_upper binary64 tie z x y t G) in
      let n = le_number x m a in
      let o = le_number m y b in
      let no : T (eq m x || eq m y) → ⊥ = T_not (eq m x || eq m y) h in (
        elim (lt_or_le x m n.0 n.1) [ inl l ↦ l | inr g ↦ absurd (no (or_l (eq m x) (eq m y) (le_antisymmetric m x g a))) ],
        elim (lt_or_le m y o.0 o.1) [ inl l ↦ l | inr g ↦ absurd (no (or_r (eq m x) (eq m y) (le_antisymmetric m y b g))) ],
      )

-- ---- what the halvings keep, and what they end with

module _ (q : Request) (rows : List Row) (high : Float) where
  pub record Bracket (z : ℕ) (e : Ends) (t : ℕ) : Type 0 where
    pub gap : Gap binary64 z e.passing e.rejected t
    pub passing_passes : T (passes q rows e.passing)
    pub rejected_fails : T (not (passes q rows e.rejected))
    pub upto_high : T (le e.rejected high)

  pub record Ended (e : Ends) : Type 0 where
    pub passing_passes : T (passes q rows e.passing)
    pub rejected_fails : T (not (passes q rows e.rejected))
    pub upto_high : T (le e.rejected high)
    pub order : T (lt e.passing e.rejected)
    pub empty : (g : Float) → T (fits binary64 g) → T (lt e.passing g) → T (lt g e.rejected) → ⊥

  ended : (z : ℕ) (e : Ends) (t : ℕ) → Bracket z e t → NoneBetween binary64 e.passing e.rejected → Ended e
  ended z e t B N =
      let G = B.gap in
      record {
        passing_passes = B.passing_passes;
        rejected_fails = B.rejected_fails;
        upto_high = B.upto_high;
        order = G.order;
        empty = λ g F l k.
            let above = between e.passing g e.rejected G.lower.above G.upper.above (lt_le e.passing g l) (lt_le g e.rejected k) in
            N g (record { fit = F; above = above }) l k;
      }

  -- one halving
  replaced_bracket : (z : ℕ) (e : Ends) (t n : ℕ) (c : Certificate)
      → verdict c ≡ passes q rows (middle e.passing e.rejected) → Bracket z e t → T (not (stops e)) → t ≤ bound (suc n)
      → (s : ℕ) × Bracket z (replaced e (middle e.passing e.rejected) c) s × (s ≤ bound n)
  unfolding replaced
  replaced_bracket z e t n c v B h b = go c v
    where
      m : Float
      m = middle e.passing e.rejected

      i : T (lt e.passing (mean binary64 e.passing e.rejected)) × T (lt (mean binary64 e.passing e.rejected) e.rejected)
      i = subst (λ (v : Float). T (lt e.passing v) × T (lt v e.rejected)) (middle_is e.passing e.rejected) (going z e t B.gap h)

      go : (c : Certificate) → verdict c ≡ passes q rows m → (s : ℕ) × Bracket z (replaced e m c) s × (s ≤ bound n)
      go (Some f) v =
          let g = gap_above binary64 tie z e.passing e.rejected t B.gap i.0 i.1 in (
            g.0,
            record {
              gap = subst (λ (u : Float). Gap binary64 z u e.rejected g.0) (sym (middle_is e.passing e.rejected)) g.1;
              passing_passes = subst T v tt;
              rejected_fails = B.rejected_fails;
              upto_high = B.upto_high;
            },
            settle (bound n) g.0 t b g.2 g.3,
          )
      go None v =
          let g = gap_below binary64 tie z e.passing e.rejected t B.gap i.0 i.1 in (
            g.0,
            record {
              gap = subst (λ (u : Float). Gap binary64 z e.passing u g.0) (sym (middle_is e.passing e.rejected)) g.1;
              passing_passes = B.passing_passes;
              rejected_fails = subst (λ (t : Bool). T (not t)) v tt;
              upto_high = le_transitive m e.rejected high (lt_le m e.rejected (going z e t B.gap h).1) B.upto_high;
            },
            settle (bound n) g.0 t b g.2 g.3,
          )

  -- what is carried from one halving to the next, with at most k left
  abbrev pub Carried : ℕ → Ends → Type 0
  Carried k e = (z : ℕ) × (t : ℕ) × Bracket z e t × (t ≤ bound k)

  pub carried_on : (k : ℕ) (e : Ends) → Carried (suc k) e → stops e ≡ false → Carried k (halved (certificate q rows) e)
  unfolding halved
  carried_on k e w b =
      let m = middle e.passing e.rejected in
      let r = replaced_bracket w.0 e w.1 k (certificate q rows m) (verdict_is q rows m) w.2 (going_on (stops e) b) w.3 in
      (w.0, r.0, r.1, r.2)
    where
      going_on : (b : Bool) → b ≡ false → T (not b)
      going_on true h = absurd (fails h tt)
      going_on false h = tt

  pub carried_end : (k : ℕ) (e : Ends) → Carried k e → (k ≡ 0) ⊎ (stops e ≡ true) → Ended e
  carried_end k e w (inl h) = ended w.0 e w.1 w.2 (one_step binary64 w.0 e.passing e.rejected w.1 w.2.gap (subst (λ (k : ℕ). w.1 ≤ bound k) h w.3))
  carried_end k e w (inr h) = ended w.0 e w.1 w.2 (stopped w.0 e w.1 w.2.gap (holds h))
