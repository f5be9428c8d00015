-- The root of a finite pattern above zero from its parts, as the code of square_root has them.
use mathlib.Core.Path.{◌≡◌, ap}
use Prim.Native.Nat.{ℕ, zero, suc, ◌+◌, ◌*◌, ◌/◌, ◌%◌, ◌^◌, ◌≤◌, ◌<◌}
use native.Mathlib.Nat.{lt_of_lt_of_le, mul-pos, mod-eq_of_lt}
use native.Mathlib.Omega.{arith}
use mathlib.Core.Bool.{false}
use lib.Dec.{lit<, lit≤}
use lib.Pow.{pow-add, pow_pos}
use lib.Ieee.{binary64, round}
use Rattle.rounding.specs.Packing.{deep}
use Rattle.rounding.proofs.Powers.{three_powers}
use Rattle.rounding.proofs.Scaled.{deep_is}
use Rattle.exact_roots.specs.Root.{root_nearest}
use Rattle.exact_roots.specs.CutRoot.{stick_more}
use Rattle.exact_roots.proofs.RootLaw.{root_rounded}

-- m * 2 ^ k is the size a, on the grid of 2 ^ -53 units
module _ (a m k : ℕ) (U : a * 2 ^ 53 ≡ m * 2 ^ k) (M : 2 ^ 52 ≤ m) (N : m < 2 ^ 53) where
  place : (z : ℕ) → z < 2 → (2 ^ 52 ≤ m * 2 ^ z) × (m * 2 ^ z < 2 ^ 54)
  place zero h = (omega arith, omega arith)
  place (suc zero) h = (omega arith, omega arith)
  place (suc (suc z)) h = absurd (omega arith)

  placed_is : m * 2 ^ ((k + 1) % 2) % 2 ^ 64 ≡ m * 2 ^ ((k + 1) % 2)
  placed_is = mod-eq_of_lt (lt_of_lt_of_le (place ((k + 1) % 2) (omega arith)).1 (lit≤ tt))

  pub placed_in : (2 ^ 52 ≤ m * 2 ^ ((k + 1) % 2) % 2 ^ 64) × (m * 2 ^ ((k + 1) % 2) % 2 ^ 64 < 2 ^ 54)
  placed_in = rw placed_is (place ((k + 1) % 2) (omega arith))

  -- the exponent is odd or even, and with the digit that makes it even half of it is the root's
  total : 4 * (a * 2 ^ 1074) * (2 ^ 0 * 2 ^ 0) ≡ (m * 2 ^ ((k + 1) % 2) % 2 ^ 64 * 256 * 2 ^ 48 + 0) * (2 ^ suc ((k + 1) / 2 + 482) * 2 ^ suc ((k + 1) / 2 + 482)) + 0 * 1
  total =
      let z = (k + 1) % 2 in
      let g = suc ((k + 1) / 2 + 482) in
      go (2 ^ k) (2 ^ 53) (2 ^ 1021) (2 ^ 1074) (m * 2 ^ z % 2 ^ 64) (2 ^ z) (2 ^ g) (2 ^ (g + g))
      U (pow-add 2 53 1021) placed_is (pow-add 2 g g) (three_powers m k 1021 2 z 56 (g + g) (omega arith))
    where
      go : (x c d l h y p q : ℕ) → a * c ≡ m * x → l ≡ c * d → h ≡ m * y → q ≡ p * p → m * x * d * 2 ^ 2 ≡ m * y * (2 ^ 56 * q)
          → 4 * (a * l) * (2 ^ 0 * 2 ^ 0) ≡ (h * 256 * 2 ^ 48 + 0) * (p * p) + 0 * 1
      go x c d l h y p q u e f s w = rw (e, f) (omega (arith, ap (λ (i : ℕ). i * d) u, ap (λ (i : ℕ). m * y * i) s))

  pub code_root : round binary64 false (stick_more (m * 2 ^ ((k + 1) % 2) % 2 ^ 64 * 256 * 2 ^ 48 + 0) 0 * 2 ^ ((k + 1) / 2 + 1807)) (2 ^ deep) ≡ root_nearest binary64 (a * 2 ^ 1074)
  code_root =
      root_rounded (a * 2 ^ 1074) (m * 2 ^ ((k + 1) % 2) % 2 ^ 64 * 256 * 2 ^ 48 + 0) 0 1 0 ((k + 1) / 2 + 482) ((k + 1) / 2 + 1807) total (lit< tt)
      (mul-pos (pow_pos (suc ((k + 1) / 2 + 482))) (pow_pos (suc ((k + 1) / 2 + 482)))) (omega (arith, placed_in.0)) (omega (arith, deep_is))
