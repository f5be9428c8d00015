-- So far apart that the smaller of two sizes does not count: the answer is the larger one's own pattern.
use mathlib.Core.Path.{◌≡◌, refl, sym, ap, ◌∙◌, subst}
use mathlib.Core.Logic.{◌⊎◌, inl, inr, ⊎_elim}
use Prim.Native.Nat.{ℕ, suc, ◌+◌, ◌-◌, ◌*◌, ◌/◌, ◌%◌, ◌^◌, ◌≤◌, ◌<◌}
use native.Mathlib.Nat.{le_trans, le_of_eq, lt_of_lt_of_le, lt_of_le_of_lt, zero-add, mul-one, mul-le-mul_left, mul-le-mul_right, eq_of_mul-eq-mul_right, div-lt_iff_lt-mul}
use native.Mathlib.Omega.{arith}
use mathlib.Core.Bool.{Bool, true, false, not}
use lib.Arith.{digits_div, digits_mod}
use lib.Dec.{T, ltb, ltb→lt, nltb→le, lit<, lit≤}
use lib.Pow.{pow-add, pow_pos, pow_mono}
use lib.Ieee.{binary64, of_bits, round}
use lib.Ieee.Nearest.{closest}
use Rattle.number.proofs.Patterns.{tiny}
use Rattle.rounding.specs.Packing.{deep, significand, exponent}
use Rattle.rounding.proofs.Powers.{half_pow, pow_lt_back, three_powers}
use Rattle.rounding.proofs.Halves.{near_lt}
use Rattle.rounding.proofs.Pack.{Normal, packed}
use Rattle.rounding.proofs.Scaled.{deep_is}
use Rattle.rounding.proofs.Unpack.{code_field, code_exponent}
use Rattle.exact_roots.specs.Root.{isqrt}
use Rattle.exact_roots.specs.CutRoot.{stick_more}
use Rattle.exact_roots.proofs.Roots.{isqrt_is, square_rises, square_lt, stick_more_is}
use Rattle.exact_roots.proofs.Parted.{Parted}

-- the root of m² + n² / 2 ^ s, in eighths of m's last digit: it is m and less than half of that digit more
pub far_root : (m n s t : ℕ) → 2 ^ 52 ≤ m → n < 2 ^ 53 → 54 ≤ s
    → (m * 8 ≤ stick_more (m * 4 * (m * 4) + n * 4 * (n * 4) / 2 ^ s) t) × (stick_more (m * 4 * (m * 4) + n * 4 * (n * 4) / 2 ^ s) t < m * 8 + 4)
far_root m n s t M N S =
    let x = m * 4 in
    let q = x * x + n * 4 * (n * 4) / 2 ^ s in
    let r = isqrt q in
    let R = isqrt_is q in
    let y = square_rises (n * 4) (2 ^ 55) (omega arith) in
    let p : 2 ^ 56 * 2 ^ 54 ≤ 2 ^ 56 * 2 ^ s = mul-le-mul_left (2 ^ 56) (pow_mono {i = 54} {j = s} S) in
    let c : n * 4 * (n * 4) / 2 ^ s < 2 ^ 56 = (div-lt_iff_lt-mul (pow_pos s)).1 (lt_of_lt_of_le y (le_trans (lit≤ tt) p)) in
    let lo : x < r + 1 = square_lt x (r + 1) (lt_of_le_of_lt (omega arith) R.1) in
    let hi : r < x + 2 = square_lt r (x + 2) (lt_of_le_of_lt R.0 (omega arith)) in
    let e = stick_more_is q t r R in
    (omega arith, omega arith)

-- ---- a pattern's own significand, and less than half of its last digit, is rounded to the pattern
module _ (a m k w : ℕ) (L : m * 8 ≤ w) (H : w < m * 8 + 4) where
  -- m * 8 is c steps of 2 ^ sh, which the format's d dropped digits make
  module _ (c sh d : ℕ) (E : m * 8 ≡ c * 2 ^ sh) (S : 2 < sh) where
    steps : w ≡ c * 2 ^ sh + (w - m * 8)
    steps = omega arith

    half : 4 ≤ 2 ^ (sh - 1)
    half = pow_mono {i = 2} {j = sh - 1} (omega arith)

    over_lt : w - m * 8 < 2 ^ sh
    over_lt = let e = half_pow sh (omega arith) in let h = half in omega arith

    kept : closest w (2 ^ sh) ≡ c
    kept =
        let h = half in
        let over : w % 2 ^ sh ≡ w - m * 8 = ap (λ (x : ℕ). x % 2 ^ sh) steps ∙ digits_mod c over_lt in
        let less : w % 2 ^ sh < 2 ^ (sh - 1) = subst (λ (x : ℕ). x < 2 ^ (sh - 1)) (sym over) (omega arith) in
        sym (near_lt w (2 ^ sh) (2 ^ (sh - 1)) (half_pow sh (omega arith)) less)
        ∙ ap (λ (x : ℕ). x / 2 ^ sh) steps
        ∙ digits_div c over_lt

    placed : k + sh ≡ d + 56 → c < 2 ^ 53 → (d ≡ 0) ⊎ (2 ^ 52 ≤ c) → Normal binary64 (w * 2 ^ (k + 1270)) (2 ^ deep) w sh d
    placed K C F =
        let r = over_lt in
        let next : w < (c + 1) * 2 ^ sh = subst (λ (x : ℕ). x < (c + 1) * 2 ^ sh) (sym steps) (omega arith) in
        let from : c * 2 ^ sh ≤ w = le_trans (le_of_eq (sym E)) L in
        record {
          den_pos = pow_pos deep;
          value = three_powers w (k + 1270) 1074 sh 0 deep d (omega (arith, deep_is)) ∙ ap (λ (x : ℕ). x * (2 ^ deep * 2 ^ d)) (mul-one w);
          under = subst (λ (x : ℕ). w < x) (sym (pow-add 2 53 sh)) (lt_of_lt_of_le next (mul-le-mul_right (2 ^ sh) (omega arith)));
          full =
              ⊎_elim
              (λ (e : d ≡ 0). inl e)
              (λ (g : 2 ^ 52 ≤ c). inr (le_trans (le_of_eq (pow-add 2 52 sh)) (le_trans (mul-le-mul_right (2 ^ sh) g) from)))
              F;
        }

    itself : k + sh ≡ d + 56 → c < 2 ^ 53 → (d ≡ 0) ⊎ (2 ^ 52 ≤ c) → suc d < 2047 → a ≡ d * 2 ^ 52 + c → of_bits binary64 a ≡ round binary64 false (w * 2 ^ (k + 1270)) (2 ^ deep)
    itself K C F D e =
        ap (of_bits binary64) (e ∙ ap (λ (x : ℕ). d * 2 ^ 52 + x) (sym kept) ∙ sym (zero-add (d * 2 ^ 52 + closest w (2 ^ sh))))
        ∙ packed binary64 false (w * 2 ^ (k + 1270)) (2 ^ deep) w sh d (placed K C F) D

pub own_pattern : (a m k w : ℕ) → 0 < a → a < 0x7ff0_0000_0000_0000 → Parted a m k → (m ≡ significand a) × (k ≡ exponent a) → m * 8 ≤ w → w < m * 8 + 4
    → of_bits binary64 a ≡ round binary64 false (w * 2 ^ (k + 1270)) (2 ^ deep)
own_pattern a m k w P A p u L H = go (ltb a (2 ^ 52)) (ltb→lt a (2 ^ 52)) (nltb→le a (2 ^ 52))
  where
    -- below the normal values the digits end at the unit
    subnormal : a < 2 ^ 52 → of_bits binary64 a ≡ round binary64 false (w * 2 ^ (k + 1270)) (2 ^ deep)
    subnormal N =
        let v : a * 2 ^ 53 ≡ m * 2 ^ k = ap (λ (x : ℕ). x * 2 ^ 53) (sym (tiny binary64 a N)) ∙ p.value in
        let l : 2 ^ 52 * 2 ^ k ≤ m * 2 ^ k = mul-le-mul_right (2 ^ k) (p.full P) in
        let s : k < 53 = pow_lt_back k 53 (omega arith) in
        let e : 56 - k + k ≡ 56 = omega arith in
        let c : 2 ^ (56 - k) * 2 ^ k ≡ 2 ^ 56 = sym (pow-add 2 (56 - k) k) ∙ ap (λ (x : ℕ). 2 ^ x) e in
        let same : m * 8 ≡ a * 2 ^ (56 - k) =
        eq_of_mul-eq-mul_right (2 ^ k) (pow_pos k) (m * 8) (a * 2 ^ (56 - k)) (omega (arith, ap (λ (x : ℕ). a * x) c)) in
        itself a m k w L H a (56 - k) 0 same (omega arith) (omega arith) (omega arith) (inl refl) (lit< tt) (omega arith)

    normal : 2 ^ 52 ≤ a → of_bits binary64 a ≡ round binary64 false (w * 2 ^ (k + 1270)) (2 ^ deep)
    normal N =
        let i : m ≡ a % 2 ^ 52 + 2 ^ 52 = u.0 ∙ sym (code_field a N) in
        let h : k ≡ a / 2 ^ 52 + 52 = u.1 ∙ sym (code_exponent a N) in
        itself a m k w L H m 3 (a / 2 ^ 52 - 1) refl (lit< tt) (omega arith) p.under (inr (p.full P)) (omega arith) (omega arith)

    go : (t : Bool) → (T t → a < 2 ^ 52) → (T (not t) → 2 ^ 52 ≤ a) → of_bits binary64 a ≡ round binary64 false (w * 2 ^ (k + 1270)) (2 ^ deep)
    go true x y = subnormal (x tt)
    go false x y = normal (y tt)
