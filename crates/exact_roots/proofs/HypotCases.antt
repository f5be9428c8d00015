-- What `hypot_of` is where a part is infinite or a NaN, or both are zero; and that neither the order nor the signs count.
use mathlib.Core.Path.{◌≡◌, refl, sym, ap, ap₂, ◌∙◌}
use Prim.Native.Nat.{ℕ, zero, suc, ◌*◌, ◌%◌, ◌^◌, ◌≤◌, ◌<◌, min, max}
use native.Mathlib.Nat.{add_comm}
use native.Mathlib.Omega.{arith}
use mathlib.Core.Bool.{Bool, true, false, not}
use lib.Dec.{T, ltb, ltb→lt, nltb→le}
use lib.Pow.{pow_pos}
use lib.Ieee.{Float, nan, inf, fin, Format, binary64, fits, of_bits, to_bits, size, round}
use lib.Ieee.Exact.{HasValue}
use lib.Ieee.Bits.{of_bits-fits}
use Rattle.number.specs.Units.{units_of}
use Rattle.number.specs.Leaves.{absolute}
use Rattle.number.proofs.ReadBack.{nan_pattern}
use Rattle.number.proofs.Patterns.{pattern_of, sign_off, one_value, size_at, pattern_value, infinite_value}
use Rattle.exact_roots.specs.Root.{root_in, isqrt, stick_root, root_nearest}
use Rattle.exact_roots.specs.Hypot.{hypot_of}

-- ---- either way round, and whatever the signs
swap : (f : Format) (x y : Float) → hypot_of f x y ≡ hypot_of f y x
unfolding hypot_of
swap f nan nan = refl
swap f nan (inf t) = refl
swap f nan (fin t n d) = refl
swap f (inf s) nan = refl
swap f (inf s) (inf t) = refl
swap f (inf s) (fin t n d) = refl
swap f (fin s m e) nan = refl
swap f (fin s m e) (inf t) = refl
swap f (fin s m e) (fin t n d) =
    let a = units_of f (fin s m e) in
    let b = units_of f (fin t n d) in
    ap (root_nearest f) (add_comm (a * a) (b * b))

of_absolutes : (f : Format) (x y : Float) → hypot_of f (absolute x) (absolute y) ≡ hypot_of f x y
unfolding hypot_of absolute
of_absolutes f nan nan = refl
of_absolutes f nan (inf t) = refl
of_absolutes f nan (fin t n d) = refl
of_absolutes f (inf s) y = refl
of_absolutes f (fin s m e) nan = refl
of_absolutes f (fin s m e) (inf t) = refl
of_absolutes f (fin s m e) (fin t n d) = refl

without_sign : (x : Float) → T (fits binary64 x) → of_bits binary64 (to_bits binary64 x % 2 ^ 63) ≡ absolute x
unfolding absolute
without_sign nan F = unfold to_bits of_bits in refl
without_sign (inf true) F = unfold to_bits of_bits in refl
without_sign (inf false) F = unfold to_bits of_bits in refl
without_sign (fin s m e) F =
    let p = pattern_of binary64 s m e F in
    ap (of_bits binary64) (ap (λ (n : ℕ). n % 2 ^ 63) p.2 ∙ sign_off binary64 s p.0 (omega (arith, p.1)))
    ∙ one_value binary64 (of_bits binary64 p.0) (fin false m e) false (size_at binary64 p.0) (2 ^ 1074)
    (pow_pos 1074) (of_bits-fits binary64 p.0) (unsigned m F) (pattern_value binary64 p.0 p.1) (refl, p.3.1)
  where
    unsigned : (m : ℕ) → T (fits binary64 (fin s m e)) → T (fits binary64 (fin false m e))
    unsigned zero F = unfold fits in F
    unsigned (suc m) F = unfold fits in F

pub code_unsigned : (x y : Float) → T (fits binary64 x) → T (fits binary64 y)
    → hypot_of binary64 (of_bits binary64 (to_bits binary64 x % 2 ^ 63)) (of_bits binary64 (to_bits binary64 y % 2 ^ 63)) ≡ hypot_of binary64 x y
code_unsigned x y F G = ap₂ (hypot_of binary64) (without_sign x F) (without_sign y G) ∙ of_absolutes binary64 x y

-- the larger pattern g and the smaller l of two
module _ (a b g l : ℕ) (e : (g ≡ max a b) × (l ≡ min a b)) where
  pub sorted_in : a < 2 ^ 63 → b < 2 ^ 63 → (l ≤ g) × (g < 2 ^ 63)
  sorted_in A B = (omega (arith, e.0, e.1), omega (arith, e.0))

  pub code_sorted : hypot_of binary64 (of_bits binary64 g) (of_bits binary64 l) ≡ hypot_of binary64 (of_bits binary64 a) (of_bits binary64 b)
  code_sorted = go (ltb a b) (ltb→lt a b) (nltb→le a b)
    where
      of : {g₁ l₁ : ℕ} → g ≡ g₁ → l ≡ l₁ → hypot_of binary64 (of_bits binary64 g) (of_bits binary64 l) ≡ hypot_of binary64 (of_bits binary64 g₁) (of_bits binary64 l₁)
      of h i = ap₂ (λ (x y : ℕ). hypot_of binary64 (of_bits binary64 x) (of_bits binary64 y)) h i

      go : (t : Bool) → (T t → a < b) → (T (not t) → b ≤ a) → hypot_of binary64 (of_bits binary64 g) (of_bits binary64 l) ≡ hypot_of binary64 (of_bits binary64 a) (of_bits binary64 b)
      go true x y = let h = x tt in of (omega (arith, e.0)) (omega (arith, e.1)) ∙ swap binary64 (of_bits binary64 b) (of_bits binary64 a)
      go false x y = let h = y tt in of (omega (arith, e.0)) (omega (arith, e.1))

-- ---- an infinite part, then a NaN
pub code_infinite : (a b : ℕ) → a ≡ 0x7ff0_0000_0000_0000 → of_bits binary64 0x7ff0_0000_0000_0000 ≡ hypot_of binary64 (of_bits binary64 a) (of_bits binary64 b)
code_infinite a b e =
    let infinite : of_bits binary64 a ≡ inf false = ap (of_bits binary64) e ∙ infinite_value binary64 in
    infinite_value binary64 ∙ sym (ap (λ (v : Float). hypot_of binary64 v (of_bits binary64 b)) infinite ∙ (unfold hypot_of in refl))

pub code_infinite_second : (a b : ℕ) → b ≡ 0x7ff0_0000_0000_0000 → of_bits binary64 0x7ff0_0000_0000_0000 ≡ hypot_of binary64 (of_bits binary64 a) (of_bits binary64 b)
code_infinite_second a b e = code_infinite b a e ∙ swap binary64 (of_bits binary64 b) (of_bits binary64 a)

nan_with : (v : Float) (s : Bool) (a c : ℕ) → HasValue v s a c → hypot_of binary64 nan v ≡ nan
unfolding hypot_of
nan_with nan s a c h = absurd h
nan_with (inf t) s a c h = absurd h
nan_with (fin t n d) s a c h = refl

pub code_nan : (a b : ℕ) → 0x7ff0_0000_0000_0000 ≤ a → (a ≡ 0x7ff0_0000_0000_0000 → ⊥) → (b ≡ 0x7ff0_0000_0000_0000 → ⊥) → a < 2 ^ 63 → b ≤ a
    → nan ≡ hypot_of binary64 (of_bits binary64 a) (of_bits binary64 b)
code_nan a b h n m l g =
    let i : ℕ = 0x7ff0_0000_0000_0000 in
    sym (ap (λ (v : Float). hypot_of binary64 v (of_bits binary64 b)) (nan_pattern a (omega arith)) ∙ go (ltb b i) (ltb→lt b i) (nltb→le b i))
  where
    both : hypot_of binary64 nan nan ≡ nan
    both = unfold hypot_of in refl

    go : (t : Bool) → (T t → b < 0x7ff0_0000_0000_0000) → (T (not t) → 0x7ff0_0000_0000_0000 ≤ b) → hypot_of binary64 nan (of_bits binary64 b) ≡ nan
    go true x y = nan_with (of_bits binary64 b) false (size_at binary64 b) (2 ^ 1074) (pattern_value binary64 b (x tt))
    go false x y = let e = y tt in ap (hypot_of binary64 nan) (nan_pattern b (omega arith)) ∙ both

-- ---- two zeros
pub code_zeros : (a b : ℕ) → a ≡ 0 → b ≤ a → of_bits binary64 0 ≡ hypot_of binary64 (of_bits binary64 a) (of_bits binary64 b)
code_zeros a b e h = let z : b ≡ 0 = omega arith in zeros ∙ ap₂ (λ (x y : ℕ). hypot_of binary64 (of_bits binary64 x) (of_bits binary64 y)) (sym e) (sym z)
  where
    zeros : of_bits binary64 0 ≡ hypot_of binary64 (of_bits binary64 0) (of_bits binary64 0)
    zeros = unfold of_bits hypot_of root_nearest stick_root isqrt root_in round size in refl
