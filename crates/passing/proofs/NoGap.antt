-- Demand 3: "Passing doubles have no gap." Each residual of a row rises or falls with the speed, rounded as it is,
-- so that between two speeds that a row admits it admits every speed. Assumes nothing.
use mathlib.Core.Path.{◌≡◌, refl}
use mathlib.Core.Logic.{◌⊎◌, inl, inr}
use mathlib.Core.List.{List, [], ◌∷◌}
use mathlib.Core.Bool.{Bool, true, false, not, ◌&&◌, cond}
use lib.Dec.{T, T_not}
use lib.Ieee.{Float, binary64, add, sub, mul, div, le, eq, of_bits}
use lib.Ieee.Fits.{and_l, and_r, and_i}
use lib.Ieee.Scale.{finite}
use Rattle.number.proofs.Order.{nought, finite_number, le_transitive, le_total, between_finite, lt_or_le, le_antisymmetric}
use Rattle.number.proofs.Monotone.{add_keeps, sub_keeps, mul_keeps, mul_turns, div_keeps, div_turns, add_number, sub_number, mul_number, add_finite, sub_finite, mul_finite}
use Rattle.rows.specs.Rows.{Row, all}
use Rattle.number.specs.Doubles.{zero, ◌⊗◌}
use Rattle.limits.specs.Bounds.{lower, upper}
use Rattle.rows.specs.Row.{norm, empty, inv, raw_tol, four_finite, numbers_finite, normalized, raw, raw_normalized, all_within, admits}
use Rattle.limits.specs.declared.request.Request.{Request}
use Rattle.certificates.specs.Certificate.{between, passes}

-- ---- y lies between x and z, whichever of these is the lower

abbrev Mid : Float → Float → Float → Type 0
Mid x y z = (T (le x y) × T (le y z)) ⊎ (T (le z y) × T (le y x))

mid_finite : (x y z : Float) → Mid x y z → T (finite x) → T (finite z) → T (finite y)
mid_finite x y z (inl p) a c = between_finite x y z a c p.0 p.1
mid_finite x y z (inr p) a c = between_finite z y x c a p.0 p.1

-- finite and at most a limit, as each residual is to be
abbrev Under : Float → Float → Type 0
Under limit x = T (finite x) × T (le x limit)

mid_under : (limit x y z : Float) → Mid x y z → Under limit x → Under limit z → Under limit y
mid_under limit x y z m p r = (mid_finite x y z m p.0 r.0, go m)
  where
    go : Mid x y z → T (le y limit)
    go (inl h) = le_transitive y z limit h.1 r.1
    go (inr h) = le_transitive y x limit h.1 p.1

-- what keeps the order of finite values, or turns it round, keeps the middle one in the middle
abbrev Keeps : (Float → Float) → Type 0
Keeps g = (x y : Float) → T (finite x) → T (finite y) → T (le x y) → T (le (g x) (g y))

abbrev Turns : (Float → Float) → Type 0
Turns g = (x y : Float) → T (finite x) → T (finite y) → T (le x y) → T (le (g y) (g x))

mid_keeps : (g : Float → Float) → Keeps g → (x y z : Float) → T (finite x) → T (finite z) → Mid x y z → Mid (g x) (g y) (g z)
mid_keeps g k x y z X Z (inl p) = let Y = mid_finite x y z (inl p) X Z in inl (k x y X Y p.0, k y z Y Z p.1)
mid_keeps g k x y z X Z (inr p) = let Y = mid_finite x y z (inr p) X Z in inr (k z y Z Y p.0, k y x Y X p.1)

mid_turns : (g : Float → Float) → Turns g → (x y z : Float) → T (finite x) → T (finite z) → Mid x y z → Mid (g x) (g y) (g z)
mid_turns g k x y z X Z (inl p) = let Y = mid_finite x y z (inl p) X Z in inr (k y z Y Z p.1, k x y X Y p.0)
mid_turns g k x y z X Z (inr p) = let Y = mid_finite x y z (inr p) X Z in inl (k y x Y X p.1, k z y Z Y p.0)

mid_mul : (c x y z : Float) → T (finite c) → T (finite x) → T (finite z) → Mid x y z → Mid (mul binary64 c x) (mul binary64 c y) (mul binary64 c z)
mid_mul c x y z C X Z m = elim (le_total nought c tt (finite_number c C)) [
  | inl p ↦ mid_keeps (mul binary64 c) (λ u v U W. mul_keeps binary64 c u v C p (mul_number binary64 c u C U) (mul_number binary64 c v C W)) x y z X Z m
  | inr p ↦ mid_turns (mul binary64 c) (λ u v U W. mul_turns binary64 c u v C p (mul_number binary64 c u C U) (mul_number binary64 c v C W)) x y z X Z m
]

mid_add : (k x y z : Float) → T (finite k) → T (finite x) → T (finite z) → Mid x y z → Mid (add binary64 x k) (add binary64 y k) (add binary64 z k)
mid_add k x y z K =
    mid_keeps (λ v. add binary64 v k)
    (λ u v U W. add_keeps binary64 k u v (add_number binary64 u k (finite_number u U) K) (add_number binary64 v k (finite_number v W) K)) x y z

mid_sub : (k x y z : Float) → T (finite k) → T (finite x) → T (finite z) → Mid x y z → Mid (sub binary64 x k) (sub binary64 y k) (sub binary64 z k)
mid_sub k x y z K =
    mid_keeps (λ v. sub binary64 v k)
    (λ u v U W. sub_keeps binary64 k u v (sub_number binary64 u k (finite_number u U) K) (sub_number binary64 v k (finite_number v W) K)) x y z

-- the program's +0
pub zero_is : zero ≡ nought
unfolding of_bits
zero_is = refl

mid_div : (d x y z : Float) → T (finite d) → T (not (eq d zero)) → T (finite x) → T (finite z) → Mid x y z → Mid (div binary64 x d) (div binary64 y d) (div binary64 z d)
mid_div d x y z D n X Z m = elim (lt_or_le d nought (finite_number d D) tt) [
  | inl l ↦ mid_turns (λ v. div binary64 v d) (λ u v U W. div_turns binary64 d u v D l) x y z X Z m
  | inr g ↦ elim (lt_or_le nought d tt (finite_number d D)) [
    | inl l ↦ mid_keeps (λ v. div binary64 v d) (λ u v U W. div_keeps binary64 d u v D l) x y z X Z m
    | inr h ↦ absurd (T_not (eq d zero) n (rw zero_is (le_antisymmetric d nought h g)))
  ]
]

-- ---- c·x + k - r, which the first residual and the second are

abbrev line : Float → Float → Float → Float → Float
line c k r x = sub binary64 (add binary64 (mul binary64 c x) k) r

mid_line : (c k r x y z : Float) → T (finite (line c k r x)) → T (finite (line c k r z)) → Mid x y z → Mid (line c k r x) (line c k r y) (line c k r z)
mid_line c k r x y z X Z m =
    let f = binary64 in
    let a = sub_finite f (add f (mul f c x) k) r X in
    let b = sub_finite f (add f (mul f c z) k) r Z in
    let a' = add_finite f (mul f c x) k a.0 in
    let b' = add_finite f (mul f c z) k b.0 in
    let a'' = mul_finite f c x a'.0 in
    let b'' = mul_finite f c z b'.0 in
    mid_sub r (add f (mul f c x) k) (add f (mul f c y) k) (add f (mul f c z) k) a.1 a.0 b.0
    (mid_add k (mul f c x) (mul f c y) (mul f c z) a'.1 a'.0 b'.0
    (mid_mul c x y z a''.0 a''.1 b''.1 m))

-- ---- a row

-- what `all_within` tests
record Meets (tol lim a b c : Float) : Type 0 where
  lim_finite : T (finite lim)
  first : Under tol a
  third : Under tol b
  second : Under lim c

tested : (tol lim a b c : Float) → T (all_within tol lim a b c) → Meets tol lim a b c
unfolding all_within
tested tol lim a b c h =
    let u = and_l (four_finite lim a b c) (le a tol && (le b tol && le c lim)) h in
    let v = and_r (four_finite lim a b c) (le a tol && (le b tol && le c lim)) h in
    let u' = and_r (finite lim) (finite a && (finite b && finite c)) u in
    let u'' = and_r (finite a) (finite b && finite c) u' in
    let v' = and_r (le a tol) (le b tol && le c lim) v in
    record {
      lim_finite = and_l (finite lim) (finite a && (finite b && finite c)) u;
      first = (and_l (finite a) (finite b && finite c) u', and_l (le a tol) (le b tol && le c lim) v);
      third = (and_l (finite b) (finite c) u'', and_l (le b tol) (le c lim) v');
      second = (and_r (finite b) (finite c) u'', and_r (le b tol) (le c lim) v');
    }

passed : (tol lim a b c : Float) → Meets tol lim a b c → T (all_within tol lim a b c)
unfolding all_within
passed tol lim a b c w =
    and_i (four_finite lim a b c) (le a tol && (le b tol && le c lim))
    (and_i (finite lim) (finite a && (finite b && finite c)) w.lim_finite
    (and_i (finite a) (finite b && finite c) w.first.0 (and_i (finite b) (finite c) w.third.0 w.second.0)))
    (and_i (le a tol) (le b tol && le c lim) w.first.1 (and_i (le b tol) (le c lim) w.third.1 w.second.1))

module _ (tol a : Float) (w : Row) (x y z : Float) (m : Mid x y z) where
  abbrev Residuals : Float → Type 0
  Residuals v = Meets tol (raw_tol tol w) (normalized a v w) (raw_normalized a v w) (raw a v w)

  residuals_mid : T (finite (norm w)) → T (not (empty w)) → Residuals x → Residuals z → Residuals y
  residuals_mid F N p r =
      let first : Mid (normalized a x w) (normalized a y w) (normalized a z w) =
      mid_line (w.curr ⊗ inv w) ((w.prev ⊗ inv w) ⊗ a) (w.rhs ⊗ inv w) x y z p.first.0 r.first.0 m in
      let second : Mid (raw a x w) (raw a y w) (raw a z w) = mid_line w.curr (w.prev ⊗ a) w.rhs x y z p.second.0 r.second.0 m in
      let third : Mid (raw_normalized a x w) (raw_normalized a y w) (raw_normalized a z w) =
      mid_div (norm w) (raw a x w) (raw a y w) (raw a z w) F N p.second.0 r.second.0 second in
      record {
        lim_finite = p.lim_finite;
        first = mid_under tol (normalized a x w) (normalized a y w) (normalized a z w) first p.first r.first;
        third = mid_under tol (raw_normalized a x w) (raw_normalized a y w) (raw_normalized a z w) third p.third r.third;
        second = mid_under (raw_tol tol w) (raw a x w) (raw a y w) (raw a z w) second p.second r.second;
      }

  norm_finite : T (numbers_finite w) → T (finite (norm w))
  unfolding numbers_finite
  norm_finite h =
      let past-curr = and_r (finite w.curr) (finite w.prev && (finite w.rhs && finite (norm w))) h in
      let past-prev = and_r (finite w.prev) (finite w.rhs && finite (norm w)) past-curr in
      and_r (finite w.rhs) (finite (norm w)) past-prev

  -- the verdict, but for the row's own numbers
  abbrev verdict : Float → Bool → Bool
  verdict v b = cond b (le zero w.rhs) (all_within tol (raw_tol tol w) (normalized a v w) (raw_normalized a v w) (raw a v w))

  admits_mid : T (admits tol a x w) → T (admits tol a z w) → T (admits tol a y w)
  unfolding admits
  admits_mid p r =
      let n = and_l (numbers_finite w) (verdict x (empty w)) p in
      and_i (numbers_finite w) (verdict y (empty w)) n
      (go (empty w) (λ t. t) (norm_finite n) (and_r (numbers_finite w) (verdict x (empty w)) p) (and_r (numbers_finite w) (verdict z (empty w)) r))
    where
      go : (b : Bool) → (T (not b) → T (not (empty w))) → T (finite (norm w)) → T (verdict x b) → T (verdict z b) → T (verdict y b)
      go true N F p r = p
      go false N F p r =
          let lim = raw_tol tol w in
          passed tol lim (normalized a y w) (raw_normalized a y w) (raw a y w)
          (residuals_mid F (N tt) (tested tol lim (normalized a x w) (raw_normalized a x w) (raw a x w) p) (tested tol lim (normalized a z w) (raw_normalized a z w) (raw a z w) r))

all_mid : (tol a : Float) (x y z : Float) → Mid x y z → (rows : List Row) → T (all (admits tol a x) rows) → T (all (admits tol a z) rows) → T (all (admits tol a y) rows)
unfolding all
all_mid tol a x y z m [] p r = tt
all_mid tol a x y z m (w ∷ rows) p r =
    and_i (admits tol a y w) (all (admits tol a y) rows)
    (admits_mid tol a w x y z m (and_l (admits tol a x w) (all (admits tol a x) rows) p) (and_l (admits tol a z w) (all (admits tol a z) rows) r))
    (all_mid tol a x y z m rows (and_r (admits tol a x w) (all (admits tol a x) rows) p) (and_r (admits tol a z w) (all (admits tol a z) rows) r))

-- ---- the bounds

pub record Between (q : Request) (x : Float) : Type 0 where
  pub is_finite : T (finite x)
  pub from_lower : T (le (lower q) x)
  pub upto_upper : T (le x (upper q))

is_between : (q : Request) (x : Float) → T (between q x) → Between q x
unfolding between
is_between q x h =
    let b = and_r (finite x) (le (lower q) x && le x (upper q)) h in
    record {
      is_finite = and_l (finite x) (le (lower q) x && le x (upper q)) h;
      from_lower = and_l (le (lower q) x) (le x (upper q)) b;
      upto_upper = and_r (le (lower q) x) (le x (upper q)) b;
    }

between_mid : (q : Request) (x y z : Float) → T (le x y) → T (le y z) → Between q x → Between q z → T (between q y)
unfolding between
between_mid q x y z h k p r =
    and_i (finite y) (le (lower q) y && le y (upper q)) (between_finite x y z p.is_finite r.is_finite h k)
    (and_i (le (lower q) y) (le y (upper q)) (le_transitive (lower q) x y p.from_lower h) (le_transitive y z (upper q) k r.upto_upper))

-- every row admits x
abbrev admitted : Request → List Row → Float → Bool
admitted q rows x = all (admits q.tolerances.feas q.a_prev x) rows

pub passes_between : (q : Request) (rows : List Row) (x : Float) → T (passes q rows x) → Between q x
unfolding passes
passes_between q rows x p = is_between q x (and_l (between q x) (admitted q rows x) p)

-- "Passing doubles have no gap": what lies between two that pass passes
pub no_gap : (q : Request) (rows : List Row) (x y z : Float) → T (le x y) → T (le y z) → T (passes q rows x) → T (passes q rows z) → T (passes q rows y)
unfolding passes
no_gap q rows x y z h k p r =
    and_i (between q y) (admitted q rows y) (between_mid q x y z h k (passes_between q rows x p) (passes_between q rows z r))
    (all_mid q.tolerances.feas q.a_prev x y z (inl (h, k)) rows (and_r (between q x) (admitted q rows x) p) (and_r (between q z) (admitted q rows z) r))
