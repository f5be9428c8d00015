-- A whole number that is nearest to a root, told by squares: its place among the sticky root's steps, and what it is rounded to.
use mathlib.Core.Path.{◌≡◌, ap, subst}
use mathlib.Core.Logic.{⊎_elim}
use Prim.Native.Nat.{ℕ, ◌+◌, ◌-◌, ◌*◌, ◌≤◌, ◌<◌}
use native.Mathlib.Nat.{eq-or-lt_of_le, le_of_lt, lt_of_le_of_lt, lt_of_mul-lt-mul_right}
use native.Mathlib.Omega.{arith}
use lib.Ieee.Nearest.{closest}
use Rattle.nearness.proofs.Kept.{close}
use Rattle.exact_roots.specs.Root.{isqrt}
use Rattle.exact_roots.specs.CutRoot.{stick_more}
use Rattle.exact_roots.specs.NearRoot.{Within}
use Rattle.exact_roots.proofs.Roots.{isqrt_is, square_lt, stick_more_is}

-- ---- the sticky root lies where the squares say
above : (n t z : ℕ) → z * z < n → 2 * z < stick_more n t
above n t z h =
    let r = isqrt n in
    let R = isqrt_is n in
    let e = stick_more_is n t r R in
    let l : z < r + 1 = square_lt z (r + 1) (lt_of_le_of_lt (le_of_lt h) R.1) in
    ⊎_elim
    (λ (a : z ≡ r). let v : r * r < n = subst (λ (x : ℕ). x * x < n) a h in omega arith)
    (λ (a : z < r). omega arith)
    (eq-or-lt_of_le (omega arith))

below : (n t z : ℕ) → n < z * z → stick_more n t < 2 * z
below n t z h =
    let r = isqrt n in
    let R = isqrt_is n in
    let e = stick_more_is n t r R in
    let l : r < z = square_lt r z (lt_of_le_of_lt R.0 h) in
    omega arith

pub at_least_twice : (n t z : ℕ) → z * z ≤ n → 2 * z ≤ stick_more n t
at_least_twice n t z h =
    let r = isqrt n in
    let R = isqrt_is n in
    let e = stick_more_is n t r R in
    let l : z < r + 1 = square_lt z (r + 1) (lt_of_le_of_lt h R.1) in
    omega arith

-- ---- less than half a step of b = 2 * h away from r steps is nearest to r
pub only_closest : (w r b h : ℕ) → b ≡ 2 * h → r * b < w + h → w < r * b + h → closest w b ≡ r
only_closest w r b h e l g =
    let c = closest w b in
    let B : 0 < b = omega arith in
    let k = close w b B in
    let x : c < r + 1 = lt_of_mul-lt-mul_right b (omega (arith, k.below)) in
    let y : r < c + 1 = lt_of_mul-lt-mul_right b (omega (arith, k.above)) in
    omega arith

-- the sticky root of a number whose root is within, by steps of 4 * b
module _ (n t r b : ℕ) (R : 0 < r) (B : 0 < b) (N : Within n r b) where
  pub within_steps : (r * (4 * b) < stick_more n t + 2 * b) × (stick_more n t < r * (4 * b) + 2 * b)
  within_steps =
      let x = above n t ((2 * r - 1) * b) N.0 in
      let y = below n t ((2 * r + 1) * b) N.1 in
      let e : (2 * r - 1) * b + b ≡ 2 * r * b = go (2 * r - 1) (omega arith) in
      (omega arith, omega arith)
    where
      go : (z : ℕ) → z + 1 ≡ 2 * r → z * b + b ≡ 2 * r * b
      go z f = omega (arith, ap (λ (x : ℕ). x * b) f)

  pub within_closest : closest (stick_more n t) (4 * b) ≡ r
  within_closest = only_closest (stick_more n t) r (4 * b) (2 * b) (omega arith) within_steps.0 within_steps.1
