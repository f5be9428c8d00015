-- The sticky law for roots: the value nearest to a root, from the root of a number that is cut.
use mathlib.Core.Path.{◌≡◌, sym, ap, ◌∙◌, subst}
use mathlib.Core.Logic.{inl, inr}
use Prim.Native.Nat.{ℕ, suc, ◌+◌, ◌*◌, ◌^◌, ◌≤◌, ◌<◌}
use native.Mathlib.Nat.{lt_of_le_of_lt, add-zero, mul-pos, pow-succ'}
use native.Mathlib.Omega.{arith}
use mathlib.Core.Bool.{false}
use lib.Pow.{pow-add, pow_pos}
use lib.Ieee.{Format, binary64, prec, low, size, round}
use lib.Ieee.Scale.{round_same}
use Rattle.rounding.specs.Stick.{stick}
use Rattle.rounding.specs.Packing.{deep}
use Rattle.rounding.proofs.Powers.{three_powers}
use Rattle.rounding.proofs.StickyLaw.{sticky, size_gt}
use Rattle.exact_roots.specs.Root.{isqrt, stick_root, root_nearest}
use Rattle.exact_roots.specs.CutRoot.{stick_more}
use Rattle.exact_roots.proofs.Roots.{isqrt_is, square_lt, more_none, more_scaled, cut_more, cut_whole}

-- the root may be taken on a grid that is finer by i digits
finer : (f : Format) (n i : ℕ) → root_nearest f n ≡ round f false (stick_root (4 * n * (2 ^ i * 2 ^ i))) (4 * 2 ^ low f * 2 ^ i)
unfolding root_nearest
finer f n i =
    let p = 2 ^ i in
    let l = 2 ^ low f in
    let m = 4 * n in
    let P : 0 < p = pow_pos i in
    let L : 0 < 4 * l = mul-pos (pow_pos 2) (pow_pos (low f)) in
    let none-cut : stick (stick_root (m * (p * p))) (2 * p) ≡ stick_root m =
    ap (λ (x : ℕ). stick (stick_root x) (2 * p)) (sym (add-zero (m * (p * p)))) ∙ cut_more m p 0 P (mul-pos P P) ∙ more_none m in
    sym (sticky f false (stick_root (m * (p * p))) (4 * l * p) (2 * p) (suc (low f)) 0
    (mul-pos L P) (mul-pos (pow_pos 1) P) (steps p l (2 ^ suc (low f)) (pow-succ' 2 (low f))) (inl (under (low f)))
    ∙ ap (λ (x : ℕ). round f false (x * (2 * p)) (2 * (4 * l * p))) none-cut
    ∙ round_same f false (stick_root m * (2 * p)) (2 * (4 * l * p)) (stick_root m) (4 * l) (mul-pos (pow_pos 1) (mul-pos L P)) L (even (stick_root m) p l))
  where
    steps : (p l k : ℕ) → k ≡ 2 * l → 2 * p * k ≡ 4 * l * p * 2 ^ 0
    steps p l k e = rw e (omega arith)

    under : (l : ℕ) → l + 0 < suc l
    under l = omega arith

    even : (y p l : ℕ) → y * (2 * p) * (4 * l) ≡ y * (2 * (4 * l * p))
    even y p l = omega arith

-- q is what a cut leaves of the number, with more digits in its root than the format keeps, and t what it takes
root_cut : (f : Format) (n q t i g : ℕ) → 4 * n * (2 ^ i * 2 ^ i) ≡ q * (2 ^ suc g * 2 ^ suc g) + t → t < 2 ^ suc g * 2 ^ suc g → prec f < size (isqrt q)
    → root_nearest f n ≡ round f false (stick_more q t * (2 * 2 ^ suc g)) (2 * (4 * 2 ^ low f * 2 ^ i))
root_cut f n q t i g e H h =
    let p = 2 ^ suc g in
    let l = 2 ^ low f in
    let d = 4 * l * 2 ^ i in
    let P : 0 < p = pow_pos (suc g) in
    let m = q * (p * p) + t in
    let D : 0 < d = mul-pos (mul-pos (pow_pos 2) (pow_pos (low f))) (pow_pos i) in
    finer f n i
    ∙ ap (λ (x : ℕ). round f false (stick_root x) d) e
    ∙ sticky f false (stick_root m) d (2 * p) (low f + i) g D (mul-pos (pow_pos 1) P) (steps l (2 ^ i) (2 ^ g) p (2 ^ (low f + i)) (pow-succ' 2 g) (pow-add 2 (low f) i))
    (inr (subst (λ (x : ℕ). prec f < size x) (sym (cut_whole q p t P H)) h))
    ∙ ap (λ (x : ℕ). round f false (x * (2 * p)) (2 * d)) (cut_more q p t P H)
  where
    steps : (l i g p k : ℕ) → p ≡ 2 * g → k ≡ l * i → 2 * p * k ≡ 4 * l * i * g
    steps l i g p k a b = rw (a, b) (omega arith)

-- ---- at binary64, as `rounded` takes it

-- a number of 2 ^ 108 at least has 55 digits in its root
long : (q : ℕ) → 2 ^ 108 ≤ q → 53 < size (isqrt q)
long q h =
    let r = isqrt q in
    let a : 2 ^ 54 < r + 1 = square_lt (2 ^ 54) (r + 1) (lt_of_le_of_lt h (isqrt_is q).1) in
    let b = size_gt r 54 (omega arith) in
    omega arith

-- the number in units, on a grid finer by i digits, is cut to q, and t steps of u were cut off
pub root_rounded : (n q t u i g e : ℕ) → 4 * n * (2 ^ i * 2 ^ i) ≡ q * (2 ^ suc g * 2 ^ suc g) + t * u → 0 < u → t * u < 2 ^ suc g * 2 ^ suc g → 2 ^ 108 ≤ q
    → g + 2 + deep ≡ e + (i + 1077) → round binary64 false (stick_more q t * 2 ^ e) (2 ^ deep) ≡ root_nearest binary64 n
root_rounded n q t u i g e E U H Q G =
    let y = stick_more q t in
    let d = 4 * 2 ^ 1074 * 2 ^ i in
    sym (root_cut binary64 n q (t * u) i g E H (long q Q)
    ∙ ap (λ (z : ℕ). round binary64 false (z * (2 * 2 ^ suc g)) (2 * d)) (more_scaled q t u U)
    ∙ round_same binary64 false (y * (2 * 2 ^ suc g)) (2 * d) (y * 2 ^ e) (2 ^ deep) (mul-pos (pow_pos 1) (mul-pos (mul-pos (pow_pos 2) (pow_pos 1074)) (pow_pos i))) (pow_pos deep)
    (same y (2 ^ suc g) (2 ^ deep) (2 ^ e) (2 ^ i) (2 ^ 1074) (2 ^ 1077) (pow-add 2 3 1074) (three_powers y 1 (suc g) deep e i 1077 (omega arith))))
  where
    same : (y p d e i l k : ℕ) → k ≡ 8 * l → y * 2 * p * d ≡ y * e * (i * k) → y * (2 * p) * d ≡ y * e * (2 * (4 * l * i))
    same y p d e i l k h w = omega (arith, ap (λ (x : ℕ). y * e * (i * x)) h)
