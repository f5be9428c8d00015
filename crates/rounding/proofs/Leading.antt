-- Digits lined up by the count of leading zeros: the highest digit of a number below 2 ^ (t + 1) goes to bit t.
use mathlib.Core.Path.{◌≡◌, subst}
use Prim.Native.Nat.{ℕ, suc, ◌+◌, ◌-◌, ◌*◌, ◌^◌, ◌≤◌, ◌<◌}
use native.Mathlib.Nat.{le_trans, le_of_eq, lt_of_lt_of_le, lt_of_not-le, not-le_of_lt, mul-le-mul_right}
use native.Mathlib.Omega.{arith}
use lib.Pow.{pow-add, pow_mono, shl_lt}
use lib.Count.{count_leading_zeros, leading_top}

module _ (t m : ℕ) (H : t < 64) (M : 0 < m) (N : m < 2 ^ suc t) where
  top_at : (j : ℕ) × (count_leading_zeros 64 m + suc j ≡ 64) × (2 ^ j ≤ m) × (m < 2 ^ suc j)
  top_at = leading_top 64 m M (lt_of_lt_of_le N (pow_mono {i = suc t} {j = 64} H))

  pub zeros_ge : 63 - t ≤ count_leading_zeros 64 m
  zeros_ge =
      let w = top_at in
      let a : w.0 < suc t = lt_of_not-le (λ (g : suc t ≤ w.0). not-le_of_lt N (le_trans (pow_mono g) w.2)) in
      omega (arith, w.1)

  pub zeros_le : count_leading_zeros 64 m ≤ 63
  zeros_le = let w = top_at in omega (arith, w.1)

  pub lined_up : (2 ^ t ≤ m * 2 ^ (count_leading_zeros 64 m - (63 - t))) × (m * 2 ^ (count_leading_zeros 64 m - (63 - t)) < 2 ^ suc t)
  lined_up =
      let w = top_at in
      let s = count_leading_zeros 64 m - (63 - t) in
      let g = zeros_ge in
      let a : w.0 + s ≡ t = omega (arith, w.1) in
      let b : suc w.0 + s ≡ suc t = omega (arith, w.1) in (
        subst (λ (x : ℕ). 2 ^ x ≤ m * 2 ^ s) a (le_trans (le_of_eq (pow-add 2 w.0 s)) (mul-le-mul_right (2 ^ s) w.2)),
        subst (λ (x : ℕ). m * 2 ^ s < 2 ^ x) b (shl_lt {a = m} (suc w.0) s w.3),
      )
