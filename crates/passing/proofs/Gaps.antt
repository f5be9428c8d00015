-- Halving the gap between two values above zero, of which the upper is at most twice the lower: where a value lies strictly between,
-- the middle does; each step leaves half the gap but for two units; so that 64 steps leave nothing between. In any format. Assumes nothing.
use mathlib.Core.Path.{◌≡◌}
use Prim.Native.Nat.{ℕ, suc, ◌+◌, ◌*◌, ◌^◌, ◌≤◌, ◌<◌}
use native.Mathlib.Nat.{le_trans, le_of_lt, lt_of_mul-lt-mul_right, mul-le-mul_right, suc-mul}
use native.Mathlib.Omega.{arith}
use lib.Dec.{T}
use lib.Ieee.{Float, Format, prec, lt, le}
use lib.Ieee.Fits.{two}
use Rattle.number.specs.Units.{units_of}
use Rattle.passing.proofs.Digits.{cut, rnd, over, rnd_short, off_up, off_down}
use Rattle.passing.proofs.Mean.{halves_between, unit_le, Closer, closer}
use Rattle.passing.proofs.Middle.{Held, units_at, units_short, at_le, at_lt, lt_at, some_digits, mean, Mean, mean_of}

-- no value of the format lies strictly between
abbrev pub NoneBetween : Format → Float → Float → Type 0
NoneBetween f x y = (g : Float) → Held f g → T (lt x g) → T (lt g y) → ⊥

-- z ≤ x < y ≤ 2z, with at most t steps of what z is rounded to between them
pub record Gap (f : Format) (z : ℕ) (x y : Float) (t : ℕ) : Type 0 where
  pub lower : Held f x
  pub upper : Held f y
  pub order : T (lt x y)
  pub from : z ≤ units_of f x
  pub upto : units_of f y ≤ z + z
  pub steps : units_of f y ≤ units_of f x + t * 2 ^ cut (prec f) z

-- one step holds nothing
pub one_step : (f : Format) (z : ℕ) (x y : Float) (t : ℕ) → Gap f z x y t → t ≤ 1 → NoneBetween f x y
one_step f z x y t G h g H l k =
    let u = 2 ^ cut (prec f) z in
    let p = lt_at f x g (units_of f x) (units_of f g) (units_at f x G.lower) (units_at f g H) l in
    let q = lt_at f g y (units_of f g) (units_of f y) (units_at f g H) (units_at f y G.upper) k in
    let i = over (prec f) z (units_of f x) (some_digits f) (units_short f x G.lower) G.from in
    let j = over (prec f) z (units_of f g) (some_digits f) (units_short f g H) (le_trans G.from (le_of_lt p)) in
    let w : i.0 < j.0 = lt_of_mul-lt-mul_right u (omega (arith, i.1, j.1)) in
    let v : suc i.0 * u ≤ j.0 * u = mul-le-mul_right u w in
    let o : t * u ≤ 1 * u = mul-le-mul_right u h in
    omega (arith, i.1, j.1, suc-mul i.0 u, G.steps)

module _ (f : Format) (tie : rnd (prec f) (2 ^ prec f + 1) ≡ 2 ^ prec f) (z : ℕ) (x y : Float) (t : ℕ) (G : Gap f z x y t) where
  M : Mean f x y
  M = mean_of f x y G.lower G.upper G.order

  abbrev m : Float
  m = mean f x y

  -- the middle is not outside
  pub from_lower : T (le x m)
  from_lower = at_le f x m (units_of f x) _ (units_at f x G.lower) M.at M.from

  pub upto_upper : T (le m y)
  upto_upper = at_le f m y _ (units_of f y) M.at (units_at f y G.upper) M.upto

  -- and strictly inside where something is
  pub inside : (g : Float) → Held f g → T (lt x g) → T (lt g y) → T (lt x m) × T (lt m y)
  inside g H l k =
      let a = units_of f x in
      let b = units_of f y in
      let n = rnd (prec f) (M.left + M.right) in
      let c = halves_between (prec f) (two f) tie a b (units_of f g) M.left M.right
      (units_short f x G.lower) (units_short f y G.upper) (units_short f g H) M.first M.second
      (lt_at f x g a (units_of f g) (units_at f x G.lower) (units_at f g H) l)
      (lt_at f g y (units_of f g) b (units_at f g H) (units_at f y G.upper) k) in
      (at_lt f x m a n (units_at f x G.lower) M.at c.0, at_lt f m y n b M.at (units_at f y G.upper) c.1)

  module _ (l : T (lt x m)) (k : T (lt m y)) where
    above : units_of f x < rnd (prec f) (M.left + M.right)
    above = lt_at f x m (units_of f x) _ (units_at f x G.lower) M.at l

    below : rnd (prec f) (M.left + M.right) < units_of f y
    below = lt_at f m y _ (units_of f y) M.at (units_at f y G.upper) k

    rounded : 2 ^ cut (prec f) (M.left + M.right) ≤ 2 ^ cut (prec f) z * 2
    rounded = unit_le (prec f) z (M.left + M.right) (omega (arith, M.first.up, M.second.up, above, below, G.upto))

    -- the middle for the lower end
    upper_half : Closer (prec f) z (rnd (prec f) (M.left + M.right)) (units_of f y) t
    upper_half =
        let n = M.left + M.right in
        closer (prec f) z (units_of f x) (units_of f y) (2 ^ cut (prec f) n) (rnd (prec f) n) (units_of f y) t
        (some_digits f) (rnd_short (prec f) n (some_digits f)) (units_short f y G.upper)
        (omega (arith, G.from, above)) below rounded (omega (arith, off_down (prec f) n, M.first.down, M.second.down, above, below)) (omega (arith, above, below)) G.steps

    -- the middle for the upper end
    lower_half : Closer (prec f) z (units_of f x) (rnd (prec f) (M.left + M.right)) t
    lower_half =
        let n = M.left + M.right in
        closer (prec f) z (units_of f x) (units_of f y) (2 ^ cut (prec f) n) (units_of f x) (rnd (prec f) n) t
        (some_digits f) (units_short f x G.lower) (rnd_short (prec f) n (some_digits f))
        G.from above rounded (omega (arith, off_up (prec f) n, M.first.up, M.second.up, above, below)) (omega (arith, above, below)) G.steps

    pub gap_above : (s : ℕ) × Gap f z m y s × (s < t) × (s + s ≤ t + 4)
    gap_above =
        let c = upper_half in (
          c.steps,
          record {
            lower = M.held;
            upper = G.upper;
            order = k;
            from = omega (arith, M.units, G.from, above);
            upto = G.upto;
            steps = omega (arith, M.units, c.gap);
          },
          c.less,
          c.halved,
        )

    pub gap_below : (s : ℕ) × Gap f z x m s × (s < t) × (s + s ≤ t + 4)
    gap_below =
        let c = lower_half in (
          c.steps,
          record {
            lower = G.lower;
            upper = M.held;
            order = l;
            from = G.from;
            upto = omega (arith, M.units, G.upto, below);
            steps = omega (arith, M.units, c.gap);
          },
          c.less,
          c.halved,
        )
