-- What `sqrt_of` is on each side of zero, and of a finite pattern above zero.
use mathlib.Core.Path.{◌≡◌, refl, sym, ap, ◌∙◌, subst}
use mathlib.Core.Logic.{⊎_elim}
use Prim.Native.Nat.{ℕ, zero, suc, ◌*◌, ◌^◌, ◌≤◌, ◌<◌}
use native.Mathlib.Nat.{lt_irrefl, zero-lt-suc, zero-mul, mul-pos}
use native.Mathlib.Omega.{arith}
use mathlib.Core.Bool.{true, false, true≢false}
use lib.Dec.{T}
use lib.Ieee.{Float, nan, inf, fin, Format, binary64, low, hid, ones, up, fits, le, lt, of_bits, to_bits}
use lib.Ieee.Fits.{up_pos, down_pos}
use lib.Ieee.Exact.{HasValue}
use lib.Pow.{pow_pos}
use Rattle.number.proofs.Order.{nought, le_number, lt_not_le, less_or_not}
use Rattle.number.proofs.Fractions.{lt→Below, Below→lt, values→lt}
use Rattle.number.proofs.Patterns.{below_sign, infinite_written, pattern_of, size_at, pattern_value, sizes_rise, units_of_value}
use Rattle.exact_roots.specs.Root.{root_nearest, sqrt_of}

-- ---- on either side of zero, and on neither
pub only_infinity : (f : Format) (x : Float) → T (fits f x) → T (lt nought x) → ones f * hid f ≤ to_bits f x → x ≡ sqrt_of f x
unfolding lt sqrt_of
only_infinity f nan F h g = refl
only_infinity f (inf true) F h g = absurd h
only_infinity f (inf false) F h g = refl
only_infinity f (fin true m e) F h g = absurd h
only_infinity f (fin false m e) F h g = let p = pattern_of f false m e F in absurd (omega (arith, p.1, p.2))

pub below_zero : (f : Format) (x : Float) → T (lt x nought) → nan ≡ sqrt_of f x
unfolding lt sqrt_of
below_zero f nan h = refl
below_zero f (inf true) h = refl
below_zero f (inf false) h = absurd h
below_zero f (fin true zero e) h = absurd (omega (arith, lt→Below (fin true zero e) nought tt tt h))
below_zero f (fin true (suc m) e) h = refl
below_zero f (fin false m e) h = absurd (omega (arith, lt→Below (fin false m e) nought tt tt h))

pub neither_side : (f : Format) (x : Float) → (T (lt nought x) → ⊥) → (T (lt x nought) → ⊥) → x ≡ sqrt_of f x
unfolding sqrt_of
neither_side f nan g h = refl
neither_side f (inf true) g h = absurd (h (unfold lt in tt))
neither_side f (inf false) g h = refl
neither_side f (fin s zero e) g h = refl
neither_side f (fin true (suc m) e) g h = absurd (h (Below→lt (fin true (suc m) e) nought tt tt (omega (arith, mul-pos (zero-lt-suc m) (up_pos e)))))
neither_side f (fin false (suc m) e) g h = absurd (g (Below→lt nought (fin false (suc m) e) tt tt (omega (arith, mul-pos (zero-lt-suc m) (up_pos e)))))

-- ---- a finite pattern above zero
of_value : (f : Format) (x : Float) (a : ℕ) → HasValue x false a (2 ^ low f) → 0 < a → sqrt_of f x ≡ root_nearest f (a * 2 ^ low f)
unfolding sqrt_of
of_value f nan a h A = absurd h
of_value f (inf s) a h A = absurd h
of_value f (fin s zero e) a h A =
    let none = sym h.1 ∙ ap (λ (x : ℕ). x * 2 ^ low f) (zero-mul (up e)) ∙ zero-mul (2 ^ low f) in
    absurd (lt_irrefl 0 (subst (λ (x : ℕ). 0 < x) none (mul-pos A (down_pos e))))
of_value f (fin true (suc m) e) a h A = absurd (true≢false h.0)
of_value f (fin false (suc m) e) a h A = ap (λ (x : ℕ). root_nearest f (x * 2 ^ low f)) (units_of_value f (fin false (suc m) e) false a h)

pub of_pattern : (b : ℕ) → 0 < b → b < 0x7ff0_0000_0000_0000 → sqrt_of binary64 (of_bits binary64 b) ≡ root_nearest binary64 (size_at binary64 b * 2 ^ 1074)
of_pattern b P H = of_value binary64 (of_bits binary64 b) (size_at binary64 b) (pattern_value binary64 b H) (omega (arith, sizes_rise binary64 0 b P))

-- ---- what is no less than a pattern's value has no lesser pattern
module _ (f : Format) (b : ℕ) (B : b < ones f * hid f) where
  pub patterns_rise : (x : Float) → T (fits f x) → T (le (of_bits f b) x) → b ≤ to_bits f x
  patterns_rise nan F h = absurd (le_number (of_bits f b) nan h).1
  patterns_rise (inf true) F h = rw (infinite_written f true) (omega arith)
  patterns_rise (inf false) F h = rw (infinite_written f false) (omega arith)
  patterns_rise (fin true m e) F h = let p = pattern_of f true m e F in rw p.2 (omega (arith, below_sign f b (omega arith)))
  patterns_rise (fin false m e) F h =
      let p = pattern_of f false m e F in
      rw p.2
      (⊎_elim
      (λ (l : p.0 < b). absurd (lt_not_le (fin false m e) (of_bits f b) (less p.0 p.3 l) h))
      (λ (l : b ≤ p.0). omega arith)
      (less_or_not p.0 b))
    where
      less : (c : ℕ) → HasValue (fin false m e) false (size_at f c) (2 ^ low f) → c < b → T (lt (fin false m e) (of_bits f b))
      less c v l =
          values→lt (fin false m e) (of_bits f b) false false (size_at f c) (size_at f b) (2 ^ low f) (pow_pos (low f)) v (pattern_value f b B)
          (omega (arith, sizes_rise f c b l))
