-- `round` gives the nearest value in the sense of specs/Nearness, for every format, either sign, every fraction. And one exact size has one nearest value only.
use mathlib.Core.Path.{◌≡◌, refl, sym, ap, ◌∙◌, subst}
use mathlib.Core.Logic.{◌⊎◌, inl, inr, ⊎_elim}
use Prim.Native.Nat.{ℕ, zero, suc, ◌+◌, ◌-◌, ◌*◌, ◌/◌, ◌%◌, ◌^◌, ◌≤◌, ◌<◌, compare, Ordering}
use native.Mathlib.Nat.{le_trans, le_of_eq, le_antisymm, lt_of_le_of_lt, not-le_of_lt, eq-zero-or-pos, mul-le-mul_right}
use native.Mathlib.Nat.{zero-div, suc-mul, mul-one, mul_assoc, pow-succ', zero-mul, div-one, mul-div_cancel}
use native.Mathlib.Omega.{arith}
use mathlib.Core.Bool.{Bool, true, false, not, ◌&&◌, cond}
use borrow.Author.Tests.{le-ltb}
use lib.Dec.{T, ltb, leb, eqb, ltb→lt, nltb→le, leb→le}
use lib.IntN.{ℤ, pos, negsuc}
use lib.Pow.{pow-add, pow_pos}
use lib.Ieee.{Float, nan, inf, fin, Format, prec, emax, low, up, down, fits, units, odd, round, to_bits, hid, ones}
use lib.Ieee.Fits.{two, two-le_pos, reach, and_l, and_r, round_is, round-fits}
use lib.Ieee.Exact.{HasValue, units_val}
use lib.Ieee.Order.{drop, kept}
use lib.Ieee.Scale.{overflow}
use Rattle.number.specs.Units.{units_of}
use Rattle.number.proofs.Patterns.{units_of_value}
use Rattle.nearness.specs.Nearness.{Size, fraction, limit, Closest, Nearest}
use Rattle.rounding.proofs.Compare.{Cmp, cmp}
use Rattle.rounding.proofs.Powers.{pow_le_back, pow_lt_back}
use Rattle.nearness.proofs.Kept.{Held, nearest_above, nearest_below, full_kept, kept_top, below_half, from_half}
use Rattle.rounding.proofs.Pack.{pattern}

-- ---- a value that a format holds has at most its digits, in units
held_at : (p l m : ℕ) (e : ℤ) → m < 2 ^ p → down e ≤ 2 ^ l → Held p (m * up e * 2 ^ l / down e)
held_at p l m (pos a) h g = (m, a + l, h, div-one (m * 2 ^ a * 2 ^ l) ∙ mul_assoc m (2 ^ a) (2 ^ l) ∙ ap (λ (x : ℕ). m * x) (sym (pow-add 2 a l)))
held_at p l m (negsuc a) h g =
    let k = pow_le_back (suc a) l g in
    let e : l - suc a + suc a ≡ l = omega arith in
    let parted : 2 ^ l ≡ 2 ^ (l - suc a) * 2 ^ suc a = ap (λ (x : ℕ). 2 ^ x) (sym e) ∙ pow-add 2 (l - suc a) (suc a) in
    let whole = ap (λ (x : ℕ). x * 2 ^ l) (mul-one m) ∙ ap (λ (x : ℕ). m * x) parted ∙ sym (mul_assoc m (2 ^ (l - suc a)) (2 ^ suc a)) in (
      m,
      l - suc a,
      h,
      ap (λ (x : ℕ). x / 2 ^ suc a) whole ∙ mul-div_cancel (m * 2 ^ (l - suc a)) (pow_pos (suc a)),
    )

nothing : (p d : ℕ) → d ≡ 0 → Held p d
nothing p d e = (0, 0, pow_pos p, e)

held : (f : Format) (x : Float) → T (fits f x) → Held (prec f) (units_of f x)
unfolding fits
held f nan t = nothing (prec f) 0 refl
held f (inf s) t = nothing (prec f) 0 refl
held f (fin s zero e) t = nothing (prec f) (units_of f (fin s zero e)) (none (up e) (2 ^ low f) (down e))
  where
    none : (u l d : ℕ) → zero * u * l / d ≡ 0
    none u l d = ap (λ (x : ℕ). x * l / d) (zero-mul u) ∙ ap (λ (x : ℕ). x / d) (zero-mul l) ∙ zero-div d
held f (fin s (suc m) e) t =
    let a = eqb (suc m % 2) 1 in
    let b = ltb (suc m) (2 ^ prec f) in
    let c = leb (down e) (2 ^ low f) in
    let d = ltb (suc m * up e) (2 ^ suc (emax f) * down e) in
    let three = and_l (a && b && c) d t in
    held_at (prec f) (low f) (suc m) e (ltb→lt (suc m) (2 ^ prec f) (and_r a b (and_l (a && b) c three))) (leb→le (down e) (2 ^ low f) (and_r (a && b) c three))

-- ---- the limit: twice the point half way between the largest number of p digits and the one after it
limit_at : (p K a b : ℕ) → 0 < K → a ≡ p + K → suc b ≡ K → 2 * (2 ^ a - 2 ^ b) ≡ (2 ^ p - 1) * 2 ^ K + 2 ^ p * 2 ^ K
limit_at p K a b P e h =
    ap (λ (x : ℕ). 2 * (x - 2 ^ b)) (ap (λ (x : ℕ). 2 ^ x) e ∙ pow-add 2 p K)
    ∙ go (2 ^ p) (2 ^ K) (2 ^ b) (pow_pos p) (ap (λ (x : ℕ). 2 ^ x) (sym h) ∙ pow-succ' 2 b)
  where
    go : (o k h : ℕ) → 0 < o → k ≡ 2 * h → 2 * (o * k - h) ≡ (o - 1) * k + o * k
    go zero k h O e = absurd (omega arith)
    go (suc o) k h O e =
        let a : suc o * k ≡ o * k + k = suc-mul o k in
        let b : (suc o - 1) * k ≡ o * k = ap (λ (x : ℕ). x * k) (omega arith) in
        omega arith

top_digits : Format → ℕ
top_digits f = low f + suc (emax f) - prec f

limit_is : (f : Format) → limit f ≡ (2 ^ prec f - 1) * 2 ^ top_digits f + 2 ^ prec f * 2 ^ top_digits f
unfolding top_digits
limit_is f = go (prec f) (emax f) (two f) (reach f)
  where
    go : (p e : ℕ) → 2 ≤ p → p ≤ suc e → 2 * (2 ^ (e + p - 2 + e + 1) - 2 ^ (e + p - 2 + e - p)) ≡ (2 ^ p - 1) * 2 ^ (e + p - 2 + suc e - p) + 2 ^ p * 2 ^ (e + p - 2 + suc e - p)
    go p e P E = limit_at p (e + p - 2 + suc e - p) (e + p - 2 + e + 1) (e + p - 2 + e - p) (omega arith) (omega arith) (omega arith)

overflow_is : (f : Format) → 2 ^ prec f * 2 ^ top_digits f ≡ overflow f
unfolding top_digits
overflow_is f = sym (pow-add 2 (prec f) (top_digits f)) ∙ ap (λ (x : ℕ). 2 ^ x) (fill (prec f) (low f) (emax f) (reach f))
  where
    fill : (p l e : ℕ) → p ≤ suc e → p + (l + suc e - p) ≡ l + suc e
    fill p l e h = omega arith

-- ---- a value by its units: what is shown of the number is shown of the value
module _ (f : Format) (s : Bool) (v : Size) (a : ℕ) where
  -- `Closest`, of the number of units
  pub record ClosestAt (even : Type 0) : Type 0 where
    pub above : (d : ℕ) → Held (prec f) d → a < d → v.at_most (a + d)
    pub below : (d : ℕ) → Held (prec f) d → d < a → v.at_least (a + d)
    pub tie : (d : ℕ) → Held (prec f) d → (a ≡ d → ⊥) → v.at_most (a + d) → v.at_least (a + d) → even

  closest_of : (x : Float) → units_of f x ≡ a → ClosestAt (to_bits f x % 2 ≡ 0) → Closest f v x
  closest_of x e c = record {
    above = λ y F g h. rw e (c.above (units_of f y) (held f y F) (rw e at h));
    below = λ y F g h. rw e (c.below (units_of f y) (held f y F) (rw e at h));
    tie = λ y F g n h k. c.tie (units_of f y) (held f y F) (λ (z : a ≡ units_of f y). n (e ∙ z)) (rw e at h) (rw e at k);
  }

  nearest_of : (x : Float) → HasValue x s a (2 ^ low f) → T (fits f x) → (v.at_least (limit f) → ⊥) → ClosestAt (to_bits f x % 2 ≡ 0) → Nearest f s v x
  nearest_of nan h F l c = absurd h
  nearest_of (inf t) h F l c = absurd h
  nearest_of (fin t m e) h F l c = (h.0, F, l, closest_of (fin t m e) (units_of_value f (fin t m e) s a h) c)

-- ---- `round`
module _ (f : Format) (s : Bool) (num den : ℕ) (D : 0 < den) where
  n : ℕ
  n = num * 2 ^ low f

  q : ℕ
  q = kept (prec f) (num * 2 ^ low f) den

  d : ℕ
  d = drop (prec f) (num * 2 ^ low f) den

  v : Size
  v = fraction f num den

  P : 0 < prec f
  P = two-le_pos (prec f) (two f)

  -- where the result is finite, its exponent's field is below the infinity's
  in_field : q * 2 ^ d < overflow f → suc d < ones f
  unfolding q d
  in_field h = ⊎_elim (small (emax f) (prec f) d (two f) (reach f)) shifted (eq-zero-or-pos d)
    where
      small : (e p d : ℕ) → 2 ≤ p → p ≤ suc e → d ≡ 0 → suc d < 2 * e + 1
      small e p d P E h = omega arith

      large : (p e d : ℕ) → 2 ≤ p → p - 1 + d < e + p - 2 + suc e → suc d < 2 * e + 1
      large p e d P h = omega arith

      shifted : 0 < d → suc d < ones f
      shifted K =
          let full = mul-le-mul_right (2 ^ d) (full_kept (prec f) (num * 2 ^ low f) den P D K) in
          let under = lt_of_le_of_lt (le_trans (le_of_eq (pow-add 2 (prec f - 1) d)) full) h in
          large (prec f) (emax f) d (two f) (pow_lt_back (prec f - 1 + d) (low f + suc (emax f)) under)

  -- the lowest bit of the pattern is that of the digits that are kept: the sign and the exponent's field weigh even numbers
  even : q * 2 ^ d < overflow f → q % 2 ≡ 0 → to_bits f (units f s q d) % 2 ≡ 0
  unfolding q d
  even h e =
      ap (λ (x : ℕ). x % 2) (pattern f s q d (kept_top (prec f) 0 (num * 2 ^ low f) den (two f) D) full (in_field h))
      ∙ go s (hid f) (suc (ones f)) q d (2 ^ (prec f - 2)) (halved (prec f) (two f)) e
    where
      full : (d ≡ 0) ⊎ (2 ^ (prec f - 1) ≤ q)
      full = ⊎_elim (λ (e : d ≡ 0). inl e) (λ (K : 0 < d). inr (full_kept (prec f) (num * 2 ^ low f) den P D K)) (eq-zero-or-pos d)

      halved : (p : ℕ) → 2 ≤ p → 2 ^ (p - 1) ≡ 2 * 2 ^ (p - 2)
      halved p h = ap (λ (x : ℕ). 2 ^ x) (omega arith) ∙ pow-succ' 2 (p - 2)

      go : (s : Bool) (h o q d i : ℕ) → h ≡ 2 * i → q % 2 ≡ 0 → (cond s (h * o) 0 + (d * h + q)) % 2 ≡ 0
      go true h o q d i e z = rw e (omega arith)
      go false h o q d i e z = rw e (omega arith)

  at_units : q * 2 ^ d < overflow f → ClosestAt f s v (q * 2 ^ d) (to_bits f (units f s q d) % 2 ≡ 0)
  unfolding q d v
  at_units h = record {
    above = λ y H l. (nearest_above (prec f) (num * 2 ^ low f) den P D y H l).0;
    below = λ y H l. (nearest_below (prec f) (num * 2 ^ low f) den P D y H l).0;
    tie = λ y H o a b. even h (go y H o (le_antisymm a b) (compare (q * 2 ^ d) y) (cmp (q * 2 ^ d) y));
  }
    where
      go : (y : ℕ) → Held (prec f) y → (q * 2 ^ d ≡ y → ⊥) → 2 * (num * 2 ^ low f) ≡ (q * 2 ^ d + y) * den → (o : Ordering) → Cmp o (q * 2 ^ d) y → q % 2 ≡ 0
      go y H n e Ordering.lt l = (nearest_above (prec f) (num * 2 ^ low f) den P D y H l).1 e
      go y H n e Ordering.eq l = absurd (n l)
      go y H n e Ordering.gt l = (nearest_below (prec f) (num * 2 ^ low f) den P D y H l).1 e

  infinite : overflow f ≤ q * 2 ^ d → units f s q d ≡ inf s
  unfolding units
  infinite h = ap (λ (t : Bool). cond t (odd (suc (prec f)) s q d (low f)) (inf s)) (le-ltb (q * 2 ^ d) (overflow f) h)

  -- below the limit the result is finite, and from the limit on it is not
  under_limit : q * 2 ^ d < overflow f → limit f * den ≤ 2 * (num * 2 ^ low f) → ⊥
  unfolding q d
  under_limit h l =
      let half-way = subst (λ (x : ℕ). x * den ≤ 2 * (num * 2 ^ low f)) (limit_is f) l in
      let over = from_half (prec f) (top_digits f) (num * 2 ^ low f) den (two f) D half-way in
      not-le_of_lt h (subst (λ (x : ℕ). x ≤ q * 2 ^ d) (overflow_is f) over)

  from_limit : overflow f ≤ q * 2 ^ d → limit f * den ≤ 2 * (num * 2 ^ low f)
  unfolding q d
  from_limit h = go (ltb (2 * n) (limit f * den)) (ltb→lt (2 * n) (limit f * den)) (nltb→le (2 * n) (limit f * den))
    where
      n : ℕ
      n = num * 2 ^ low f

      go : (b : Bool) → (T b → 2 * n < limit f * den) → (T (not b) → limit f * den ≤ 2 * n) → limit f * den ≤ 2 * n
      go true l g =
          let half-way = subst (λ (x : ℕ). 2 * n < x * den) (limit_is f) (l tt) in
          let below = below_half (prec f) (top_digits f) n den (two f) D half-way in
          absurd (not-le_of_lt (subst (λ (x : ℕ). q * 2 ^ d < x) (overflow_is f) below) h)
      go false l g = g tt

  pub round_nearest : Nearest f s (fraction f num den) (round f s num den)
  unfolding q d v
  round_nearest =
      subst (λ (x : Float). Nearest f s v x) (sym (round_is f s num den))
      (go (ltb (q * 2 ^ d) (overflow f)) (ltb→lt (q * 2 ^ d) (overflow f)) (nltb→le (q * 2 ^ d) (overflow f)))
    where
      go : (b : Bool) → (T b → q * 2 ^ d < overflow f) → (T (not b) → overflow f ≤ q * 2 ^ d) → Nearest f s v (units f s q d)
      go true l g =
          let h = l tt in
          let fit = subst (λ (x : Float). T (fits f x)) (round_is f s num den) (round-fits f s num den) in
          nearest_of f s v (q * 2 ^ d) (units f s q d) (units_val f s q d h) fit (under_limit h) (at_units h)
      go false l g = subst (λ (x : Float). Nearest f s v x) (sym (infinite (g tt))) (refl, from_limit (g tt))

-- ---- two ways to say the same size
pub record Same (v w : Size) : Type 0 where
  pub most : (k : ℕ) → v.at_most k → w.at_most k
  pub most_back : (k : ℕ) → w.at_most k → v.at_most k
  pub least : (k : ℕ) → v.at_least k → w.at_least k
  pub least_back : (k : ℕ) → w.at_least k → v.at_least k

pub nearest_same : (f : Format) (s : Bool) (v w : Size) (x : Float) → Same v w → Nearest f s v x → Nearest f s w x
nearest_same f s v w nan e h = absurd h
nearest_same f s v w (inf t) e h = (h.0, e.least (limit f) h.1)
nearest_same f s v w (fin t m d) e h =
    let x = fin t m d in (
      h.0,
      h.1,
      λ l. h.2 (e.least_back (limit f) l),
      record {
        above = λ y F g l. e.most (units_of f x + units_of f y) (h.3.above y F g l);
        below = λ y F g l. e.least (units_of f x + units_of f y) (h.3.below y F g l);
        tie = λ y F g n a b. h.3.tie y F g n (e.most_back (units_of f x + units_of f y) a) (e.least_back (units_of f x + units_of f y) b);
      },
    )
