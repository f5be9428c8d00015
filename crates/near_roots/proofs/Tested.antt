-- A guess that is tested and found to be the root: the code of `is_nearest`, the pattern that `near_length` makes of it, and the code of `is_root`.
use Rattle.std.proofs.Common.{◌≡◌, ℕ, zero, suc, ◌+◌, ◌-◌, ◌*◌, ◌/◌, ◌%◌, ◌^◌, ◌<◌, ◌≤◌, false, sym, refl, ap, ◌∙◌, subst, inr, le_trans, lt_of_lt_of_le, mul-le-mul, mul-le-mul_left, le-div_iff_mul-le, zero-add, mul-one, arith, lit<, lit≤, pow_pos, pow_mono}
use lib.Ieee.{binary64, of_bits, round}
use lib.Ieee.Nearest.{closest}
use Rattle.number.proofs.Patterns.{size_at}
use Rattle.rounding.specs.Packing.{deep}
use Rattle.rounding.proofs.Powers.{three_powers}
use Rattle.rounding.proofs.Pack.{packed}
use Rattle.rounding.proofs.Scaled.{deep_is}
use Rattle.rounding.proofs.Unpack.{code_field, code_exponent}
use Rattle.exact_roots.specs.CutRoot.{stick_more}
use Rattle.exact_roots.specs.NearRoot.{Within}
use Rattle.exact_roots.specs.Root.{sqrt_of}
use Rattle.exact_roots.proofs.NearRoots.{at_least_twice, within_steps, within_closest}
use Rattle.exact_roots.proofs.SqrtCases.{of_pattern}
use Rattle.exact_roots.proofs.Parted.{Parted, parted}
use Rattle.exact_roots.proofs.Sqrts.{placed_in, code_root}

-- ---- the code of `is_nearest`: u is the upper word of the square, v and t are the differences, which wrap
apart : (h u v w t : ℕ) → 2 ^ 60 ≤ h → h < 2 ^ 64 → 2 ^ 60 ≤ u → w < 2 ^ 11 → v < 2 ^ 64 → (v + h) % 2 ^ 64 ≡ u → t ≡ (v + w) % 2 ^ 64 → t < 2 * w
    → (h ≤ u + w) × (u < h + w)
apart h u v w t A B C E F e f g = (omega arith, omega arith)

-- the root's step is 2 * b: the square of r, and r itself, by steps of 2 ^ 48
module _ (h r u w b : ℕ) (A : (h ≤ u + w) × (u < h + w)) (R : 0 < r) (B : b * b < 2 ^ 48)
    (U : (u * 2 ^ 48 ≤ 4 * (b * b) * (r * r)) × (4 * (b * b) * (r * r) < (u + 1) * 2 ^ 48)) (W : (w + 3) * 2 ^ 48 ≤ 4 * (b * b) * r) where
  within : (n : ℕ) → h * 2 ^ 48 ≤ n → n < (h + 3) * 2 ^ 48 → Within n r b
  within n H N = (go (2 * r - 1) (omega arith), omega arith)
    where
      go : (z : ℕ) → z + 1 ≡ 2 * r → z * b * (z * b) < n
      go z e =
          let f : z * z + 4 * r ≡ 4 * (r * r) + 1 = omega (arith, ap (λ (x : ℕ). x * x) e) in
          omega (arith, ap (λ (x : ℕ). x * (b * b)) f)

-- what leaves room for three is three less, or more
pub room : (x k : ℕ) → k ≤ x → 3 ≤ k → x - k + 3 ≤ x
room x k g l = omega arith

less : (w x : ℕ) → w + 3 ≤ x → x < 2 ^ 11 → w < 2 ^ 11
less w x g l = omega arith

-- ---- by the digit p of the step
module _ (u r p : ℕ) (I : u ≡ r * 2048) (R : 2 ^ 52 ≤ r) (L : r < 2 ^ 53) (P : p < 2) where
  abbrev lined : ℕ
  lined = u / 2 ^ p

  pub code_wide : (3 ≤ lined / 2 ^ 53 / 2 ^ p) × (lined / 2 ^ 53 / 2 ^ p < 2 ^ 11)
  code_wide = go p P
    where
      go : (p : ℕ) → p < 2 → (3 ≤ u / 2 ^ p / 2 ^ 53 / 2 ^ p) × (u / 2 ^ p / 2 ^ 53 / 2 ^ p < 2 ^ 11)
      go zero l = (omega arith, omega arith)
      go (suc zero) l = (omega arith, omega arith)
      go (suc (suc p)) l = absurd (omega arith)

  square_in : (q : ℕ) → q ≡ lined * lined / 2 ^ 64 → (q * 2 ^ 48 ≤ 4 * (2 ^ (2 - p) * 2 ^ (2 - p)) * (r * r)) × (4 * (2 ^ (2 - p) * 2 ^ (2 - p)) * (r * r) < (q + 1) * 2 ^ 48)
  square_in q = go p P
    where
      even : (x : ℕ) → q ≡ x * 4194304 / 2 ^ 64 → (q * 2 ^ 48 ≤ 64 * x) × (64 * x < (q + 1) * 2 ^ 48)
      even x e = (omega arith, omega arith)

      odd : (x : ℕ) → q ≡ x * 1048576 / 2 ^ 64 → (q * 2 ^ 48 ≤ 16 * x) × (16 * x < (q + 1) * 2 ^ 48)
      odd x e = (omega arith, omega arith)

      go : (p : ℕ) → p < 2 → q ≡ u / 2 ^ p * (u / 2 ^ p) / 2 ^ 64
          → (q * 2 ^ 48 ≤ 4 * (2 ^ (2 - p) * 2 ^ (2 - p)) * (r * r)) × (4 * (2 ^ (2 - p) * 2 ^ (2 - p)) * (r * r) < (q + 1) * 2 ^ 48)
      go zero l e =
          let s : u / 2 ^ 0 ≡ r * 2048 = omega arith in
          let x : r * 2048 * (r * 2048) ≡ r * r * 4194304 = omega arith in
          even (r * r) (e ∙ ap (λ (y : ℕ). y * y / 2 ^ 64) s ∙ ap (λ (y : ℕ). y / 2 ^ 64) x)
      go (suc zero) l e =
          let s : u / 2 ^ 1 ≡ r * 1024 = omega arith in
          let x : r * 1024 * (r * 1024) ≡ r * r * 1048576 = omega arith in
          odd (r * r) (e ∙ ap (λ (y : ℕ). y * y / 2 ^ 64) s ∙ ap (λ (y : ℕ). y / 2 ^ 64) x)
      go (suc (suc p)) l e = absurd (omega arith)

  own_part : (w : ℕ) → w + 3 ≤ lined / 2 ^ 53 / 2 ^ p → (w + 3) * 2 ^ 48 ≤ 4 * (2 ^ (2 - p) * 2 ^ (2 - p)) * r
  own_part w = go p P
    where
      go : (p : ℕ) → p < 2 → w + 3 ≤ u / 2 ^ p / 2 ^ 53 / 2 ^ p → (w + 3) * 2 ^ 48 ≤ 4 * (2 ^ (2 - p) * 2 ^ (2 - p)) * r
      go zero l e = omega arith
      go (suc zero) l e = omega arith
      go (suc (suc p)) l e = absurd (omega arith)

  step_small : 2 ^ (2 - p) * 2 ^ (2 - p) < 2 ^ 48
  step_small = go p P
    where
      go : (p : ℕ) → p < 2 → 2 ^ (2 - p) * 2 ^ (2 - p) < 2 ^ 48
      go zero l = lit< tt
      go (suc zero) l = lit< tt
      go (suc (suc p)) l = absurd (omega arith)

  square_ge : (q : ℕ) → q ≡ lined * lined / 2 ^ 64 → 2 ^ 60 ≤ q
  square_ge q e = let g = least in let h : 2 ^ 62 * 2 ^ 62 ≤ lined * lined = mul-le-mul g g in go (lined * lined) e h
    where
      least : 2 ^ 62 ≤ lined
      least = (le-div_iff_mul-le (pow_pos p)).1 (le_trans (mul-le-mul_left (2 ^ 62) (pow_mono {i = p} {j = 1} (omega arith))) (omega arith))

      go : (x : ℕ) → q ≡ x / 2 ^ 64 → 2 ^ 62 * 2 ^ 62 ≤ x → 2 ^ 60 ≤ q
      go x f h = omega arith

  pub code_nearest : (h q v w t : ℕ) → 2 ^ 60 ≤ h → h < 2 ^ 64 → q ≡ lined * lined / 2 ^ 64 → v < 2 ^ 64 → (v + h) % 2 ^ 64 ≡ q → t ≡ (v + w) % 2 ^ 64 → t < 2 * w → w + 3 ≤ lined / 2 ^ 53 / 2 ^ p
      → (n : ℕ) → h * 2 ^ 48 ≤ n → n < (h + 3) * 2 ^ 48 → Within n r (2 ^ (2 - p))
  code_nearest h q v w t H G E F e f g W =
      let a = apart h q v w t H G (square_ge q E) (less w (lined / 2 ^ 53 / 2 ^ p) W code_wide.1) F e f g in
      within h r q w (2 ^ (2 - p)) a (lt_of_lt_of_le (lit< tt) R) step_small (square_in q E) (own_part w W)

-- ---- the pattern that a tested root makes: k is the larger's exponent, and the root's is one more where the upper digits h reach bit 62
long : (h q : ℕ) → 2 ^ 60 ≤ h → h * 2 ^ 48 ≤ q → (2 ^ 108 ≤ q) × (1 - h / 2 ^ 62 ≡ 0 → 2 ^ 110 ≤ q)
long h q H G = (omega arith, λ e. omega arith)

module _ (q t r k : ℕ) (R : 2 ^ 52 ≤ r) (S : r < 2 ^ 53) (K : 53 ≤ k) (L : k < 2098) where
  abbrev w : ℕ
  w = stick_more q t

  at : (sh d : ℕ) → closest w (2 ^ sh) ≡ r → k + sh ≡ d + 56 → w < 2 ^ (53 + sh) → 2 ^ (52 + sh) ≤ w → suc d < 2047
      → of_bits binary64 (d * 2 ^ 52 + r) ≡ round binary64 false (w * 2 ^ (k + 1270)) (2 ^ deep)
  at sh d c e u f s =
      ap (λ (x : ℕ). of_bits binary64 (d * 2 ^ 52 + x)) (sym c)
      ∙ ap (of_bits binary64) (sym (zero-add (d * 2 ^ 52 + closest w (2 ^ sh))))
      ∙ packed binary64 false (w * 2 ^ (k + 1270)) (2 ^ deep) w sh d (record {
        den_pos = pow_pos deep;
        value = three_powers w (k + 1270) 1074 sh 0 deep d (omega (arith, deep_is)) ∙ ap (λ (x : ℕ). x * (2 ^ deep * 2 ^ d)) (mul-one w);
        under = u;
        full = inr f;
      }) s

  pub by_step : (l : ℕ) → l < 2 → 2 ^ 108 ≤ q → (l ≡ 0 → 2 ^ 110 ≤ q) → Within q r (2 ^ (2 - l))
      → of_bits binary64 ((k - 52 - l) * 2 ^ 52 + r) ≡ round binary64 false (w * 2 ^ (k + 1270)) (2 ^ deep)
  by_step zero i Q g n =
      let s = within_steps q t r 4 (omega arith) (lit< tt) n in
      at 4 (k - 52 - 0) (within_closest q t r 4 (omega arith) (lit< tt) n) (omega arith) (omega (arith, s.1)) (at_least_twice q t (2 ^ 55) (le_trans (lit≤ tt) (g refl))) (omega arith)
  by_step (suc zero) i Q g n =
      let s = within_steps q t r 2 (omega arith) (lit< tt) n in
      at 3 (k - 52 - 1) (within_closest q t r 2 (omega arith) (lit< tt) n) (omega arith) (omega (arith, s.1)) (at_least_twice q t (2 ^ 54) (le_trans (lit≤ tt) Q)) (omega arith)
  by_step (suc (suc l)) i Q g n = absurd (omega arith)

  pub code_packed : (h : ℕ) → 2 ^ 60 ≤ h → h * 2 ^ 48 ≤ q → Within q r (2 ^ (2 - (1 - h / 2 ^ 62)))
      → of_bits binary64 ((k - 52 - (1 - h / 2 ^ 62)) * 2 ^ 52 + r) ≡ round binary64 false (w * 2 ^ (k + 1270)) (2 ^ deep)
  code_packed h H G n = let g = long h q H G in by_step (1 - h / 2 ^ 62) (omega arith) g.0 g.1 n

-- and it is no NaN's
pub code_pattern : (d r : ℕ) → d < 2046 → r < 2 ^ 53 → d * 2 ^ 52 + r ≤ 0x7ff0_0000_0000_0000
code_pattern d r D R = omega arith

-- ---- the code of `is_root`: in quarter steps it is the root that `code-root` has
quarter : (n r : ℕ) → Within (4 * n) r 4 → Within n r 2
quarter n r W = (go (2 * r - 1) W.0, omega (arith, W.1))
  where
    go : (z : ℕ) → z * 4 * (z * 4) < 4 * n → z * 2 * (z * 2) < n
    go z h = omega arith

-- the digits lie one higher where the exponent is even
halved : (m k : ℕ) → m < 2 ^ 53 → m * 2048 / 2 ^ (k % 2) * 2 ^ 48 ≡ 4 * (m * 2 ^ ((k + 52 + 1) % 2) % 2 ^ 64 * 256 * 2 ^ 48 + 0)
halved m k M = go (k % 2) ((k + 52 + 1) % 2) (omega arith)
  where
    go : (z y : ℕ) → z + y ≡ 1 → m * 2048 / 2 ^ z * 2 ^ 48 ≡ 4 * (m * 2 ^ y % 2 ^ 64 * 256 * 2 ^ 48 + 0)
    go zero zero e = absurd (omega arith)
    go zero (suc zero) e = omega arith
    go zero (suc (suc y)) e = absurd (omega arith)
    go (suc zero) zero e = omega arith
    go (suc zero) (suc y) e = absurd (omega arith)
    go (suc (suc z)) y e = absurd (omega arith)

-- and fill a word, or all but its last
pub lined_ge : (m z : ℕ) → z < 2 → 2 ^ 52 ≤ m → 2 ^ 60 ≤ m * 2048 / 2 ^ z
lined_ge m zero l M = omega arith
lined_ge m (suc zero) l M = omega arith
lined_ge m (suc (suc z)) l M = absurd (omega arith)

module _ (b c : ℕ) (A : 2 ^ 52 ≤ b) (B : b < 0x7ff0_0000_0000_0000) where
  abbrev digits : ℕ
  digits = b % 2 ^ 52 + 2 ^ 52

  abbrev half : ℕ
  half = (b / 2 ^ 52 + 52 + 1) / 2

  abbrev lined_up : ℕ
  lined_up = digits * 2 ^ ((b / 2 ^ 52 + 52 + 1) % 2) % 2 ^ 64 * 256 * 2 ^ 48 + 0

  some : 0 < b
  some = omega arith

  parts : Parted b digits (b / 2 ^ 52 + 52)
  parts = parted b digits (b / 2 ^ 52 + 52) B (code_field b A, code_exponent b A)

  pub code_is_root : (m r : ℕ) → m ≡ digits → r ≡ c % 2 ^ 52 + 2 ^ 52 → c / 2 ^ 52 ≡ (b / 2 ^ 52 + 1023) / 2
      → Within (m * 2048 / 2 ^ (b / 2 ^ 52 % 2) * 2 ^ 48) (r * 2048 / 2 ^ 11) 4 → of_bits binary64 c ≡ sqrt_of binary64 (of_bits binary64 b)
  code_is_root m r M R e W =
      let p = parts in
      let i = (placed_in (size_at binary64 b) digits (b / 2 ^ 52 + 52) p.value (p.full some) p.under).0 in
      let v : r * 2048 / 2 ^ 11 ≡ r = omega arith in
      let g = ap (λ (x : ℕ). x * 2048 / 2 ^ (b / 2 ^ 52 % 2) * 2 ^ 48) M ∙ halved digits (b / 2 ^ 52) p.under in
      let n = quarter lined_up r (rw (sym g) (subst (λ (x : ℕ). Within (m * 2048 / 2 ^ (b / 2 ^ 52 % 2) * 2 ^ 48) x 4) v W)) in
      let d : half + 537 + 1270 ≡ half + 1807 = omega arith in
      let f : c ≡ (half + 537 - 52 - 1) * 2 ^ 52 + r = omega arith in
      ap (of_bits binary64) f
      ∙ by_step lined_up 0 r (half + 537) (omega arith) (omega arith) (omega arith) (omega arith)
      1 (lit< tt) (omega (arith, i)) (λ z. absurd (omega (arith, z))) n
      ∙ ap (λ (x : ℕ). round binary64 false (stick_more lined_up 0 * 2 ^ x) (2 ^ deep)) d
      ∙ code_root (size_at binary64 b) digits (b / 2 ^ 52 + 52) p.value (p.full some) p.under
      ∙ sym (of_pattern b some B)
