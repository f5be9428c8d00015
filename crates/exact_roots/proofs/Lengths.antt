-- What `hypot_of` is of two finite patterns without a sign, the larger one first: the code of `finite_length`.
use mathlib.Core.Path.{◌≡◌, sym, ap, ap₂, ◌∙◌, subst}
use Prim.Native.Nat.{ℕ, suc, ◌+◌, ◌-◌, ◌*◌, ◌/◌, ◌%◌, ◌^◌, ◌≤◌, ◌<◌}
use native.Mathlib.Nat.{lt_of_le_of_lt, mul-pos, mul-le-mul, mul-lt-mul_of_pos_right, mod-lt, div-add-mod', pow-succ'}
use native.Mathlib.Omega.{arith}
use mathlib.Core.Bool.{false}
use lib.Pow.{pow-add, pow_pos}
use lib.Ieee.{Float, nan, inf, fin, binary64, of_bits, round}
use lib.Ieee.Exact.{HasValue}
use Rattle.number.proofs.Patterns.{size_at, pattern_value, units_of_value}
use Rattle.rounding.specs.Packing.{deep, significand, exponent}
use Rattle.rounding.proofs.Scaled.{deep_is}
use Rattle.exact_roots.specs.Root.{root_nearest}
use Rattle.exact_roots.specs.CutRoot.{stick_more}
use Rattle.exact_roots.specs.Hypot.{hypot_of}
use Rattle.exact_roots.proofs.RootLaw.{root_rounded}
use Rattle.exact_roots.proofs.Parted.{Parted, exponents_rise}
use Rattle.exact_roots.proofs.Far.{far_root, own_pattern}

-- ---- two finite values, by their sizes
of_values : (x y : Float) (a b : ℕ) → HasValue x false a (2 ^ 1074) → HasValue y false b (2 ^ 1074) → hypot_of binary64 x y ≡ root_nearest binary64 (a * a + b * b)
unfolding hypot_of
of_values nan y a b h k = absurd h
of_values (inf s) y a b h k = absurd h
of_values (fin s m e) nan a b h k = absurd k
of_values (fin s m e) (inf t) a b h k = absurd k
of_values (fin s m e) (fin t n d) a b h k =
    ap₂ (λ (i j : ℕ). root_nearest binary64 (i * i + j * j))
    (units_of_value binary64 (fin s m e) false a h) (units_of_value binary64 (fin t n d) false b k)

of_patterns : (a b : ℕ) → a < 0x7ff0_0000_0000_0000 → b ≤ a → hypot_of binary64 (of_bits binary64 a) (of_bits binary64 b)
    ≡ root_nearest binary64 (size_at binary64 a * size_at binary64 a + size_at binary64 b * size_at binary64 b)
of_patterns a b A h =
    of_values (of_bits binary64 a) (of_bits binary64 b) (size_at binary64 a) (size_at binary64 b)
    (pattern_value binary64 a A) (pattern_value binary64 b (lt_of_le_of_lt h A))

-- ---- the sizes a and b on the grid of 2 ^ -53 units, their squares on the grid of 2 ^ -110, and the second square cut
module _ (a b m k n j : ℕ) (A : a * 2 ^ 53 ≡ m * 2 ^ k) (B : b * 2 ^ 53 ≡ n * 2 ^ j) (M : 2 ^ 52 ≤ m) (J : j ≤ k) where
  abbrev s : ℕ
  s = (k - j) * 2

  abbrev q : ℕ
  q = m * 4 * (m * 4) + n * 4 * (n * 4) / 2 ^ s

  abbrev t : ℕ
  t = n * 4 * (n * 4) % 2 ^ s

  abbrev u : ℕ
  u = 2 ^ suc j * 2 ^ suc j

  step : 2 ^ s * u ≡ 2 ^ suc k * 2 ^ suc k
  step =
      let e : s + (suc j + suc j) ≡ suc k + suc k = omega arith in
      ap (λ (i : ℕ). 2 ^ s * i) (sym (pow-add 2 (suc j) (suc j))) ∙ sym (pow-add 2 s (suc j + suc j)) ∙ ap (λ (i : ℕ). 2 ^ i) e ∙ pow-add 2 (suc k) (suc k)

  split : q * 2 ^ s + t ≡ m * 4 * (m * 4) * 2 ^ s + n * 4 * (n * 4)
  split = go (n * 4 * (n * 4) / 2 ^ s) t (2 ^ s) (div-add-mod' (n * 4 * (n * 4)) (2 ^ s))
    where
      go : (c d p : ℕ) → c * p + d ≡ n * 4 * (n * 4) → (m * 4 * (m * 4) + c) * p + d ≡ m * 4 * (m * 4) * p + n * 4 * (n * 4)
      go c d p h = omega arith

  total : 4 * (a * a + b * b) * (2 ^ 55 * 2 ^ 55) ≡ q * (2 ^ suc k * 2 ^ suc k) + t * u
  total = go (2 ^ 53) (2 ^ k) (2 ^ j) (2 ^ suc k) (2 ^ suc j) (2 ^ s) q t A B (pow-succ' 2 k) (pow-succ' 2 j) step split
    where
      go : (c x y v w p q t : ℕ) → a * c ≡ m * x → b * c ≡ n * y → v ≡ 2 * x → w ≡ 2 * y → p * (w * w) ≡ v * v → q * p + t ≡ m * 4 * (m * 4) * p + n * 4 * (n * 4)
          → 4 * (a * a + b * b) * (4 * c * (4 * c)) ≡ q * (v * v) + t * (w * w)
      go c x y v w p q t f g d e h i =
          let o : 4 * (a * a + b * b) * (4 * c * (4 * c)) ≡ 64 * (a * c * (a * c) + b * c * (b * c)) = omega arith in
          let r : 64 * (m * x * (m * x) + n * y * (n * y)) ≡ 16 * (m * m) * (v * v) + 16 * (n * n) * (w * w) = rw (d, e) (omega arith) in
          let k : 16 * (m * m) * (p * (w * w)) + 16 * (n * n) * (w * w) ≡ (m * 4 * (m * 4) * p + n * 4 * (n * 4)) * (w * w) = omega arith in
          let l : (q * p + t) * (w * w) ≡ q * (p * (w * w)) + t * (w * w) = omega arith in
          o
          ∙ ap₂ (λ (i j : ℕ). 64 * (i * i + j * j)) f g
          ∙ r
          ∙ ap (λ (i : ℕ). 16 * (m * m) * i + 16 * (n * n) * (w * w)) (sym h)
          ∙ k
          ∙ ap (λ (j : ℕ). j * (w * w)) (sym i)
          ∙ l
          ∙ ap (λ (i : ℕ). q * i + t * (w * w)) h

  rest_lt : t * u < 2 ^ suc k * 2 ^ suc k
  rest_lt = subst (λ (i : ℕ). t * u < i) step (mul-lt-mul_of_pos_right (mod-lt (n * 4 * (n * 4)) (pow_pos s)) (mul-pos (pow_pos (suc j)) (pow_pos (suc j))))

  big : 2 ^ 108 ≤ q
  big = let h : 2 ^ 52 * 2 ^ 52 ≤ m * m = mul-le-mul M M in omega arith

  code_length : round binary64 false (stick_more q t * 2 ^ (k + 1270)) (2 ^ deep) ≡ root_nearest binary64 (a * a + b * b)
  code_length = root_rounded (a * a + b * b) q t u 55 k (k + 1270) total (mul-pos (pow_pos (suc j)) (pow_pos (suc j))) rest_lt big (omega (arith, deep_is))

-- ---- where m, k and n, j are the parts of a and b
pub record Both (a b m k n j : ℕ) : Type 0 where
  pub first : Parted a m k
  pub second : Parted b n j
  pub some : 0 < a
  pub ordered : b ≤ a
  pub below : a < 0x7ff0_0000_0000_0000

module _ (a b m k n j : ℕ) (p : Both a b m k n j) where
  pub lower : j ≤ k
  lower = exponents_rise a b m k n j p.first p.second p.ordered

  pub code_near : round binary64 false
      (stick_more (m * 4 * (m * 4) + n * 4 * (n * 4) / 2 ^ ((k - j) * 2)) (n * 4 * (n * 4) % 2 ^ ((k - j) * 2)) * 2 ^ (k + 1270)) (2 ^ deep)
      ≡ hypot_of binary64 (of_bits binary64 a) (of_bits binary64 b)
  code_near =
      code_length (size_at binary64 a) (size_at binary64 b) m k n j p.first.value p.second.value (p.first.full p.some) lower
      ∙ sym (of_patterns a b p.below p.ordered)

  pub code_far : (m ≡ significand a) × (k ≡ exponent a) → 26 < k - j → of_bits binary64 a ≡ hypot_of binary64 (of_bits binary64 a) (of_bits binary64 b)
  code_far u d =
      let s = (k - j) * 2 in
      let r = far_root m n s (n * 4 * (n * 4) % 2 ^ s) (p.first.full p.some) p.second.under (omega arith) in
      own_pattern a m k (stick_more (m * 4 * (m * 4) + n * 4 * (n * 4) / 2 ^ s) (n * 4 * (n * 4) % 2 ^ s)) p.some p.below p.first u r.0 r.1 ∙ code_near
