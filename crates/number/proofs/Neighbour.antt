-- `next_down f x` is x's neighbour: the format holds it, it is less than x, and no value that the format holds lies between. Assumes nothing.
use Rattle.std.proofs.Common.{◌≡◌, ℕ, zero, suc, ◌+◌, ◌-◌, ◌*◌, ◌^◌, ◌<◌, Bool, true, false, T, ◌⊎◌, ℤ, sym, refl, ap, ◌∙◌, subst, inl, inr, add_assoc, eq-or-lt_of_le, zero-add, zero-mul, arith, pow_pos}
use lib.Ieee.{Float, nan, inf, fin, Format, binary32, binary64, low, hid, ones, top, up, down, minus, lt, fits, of_bits, to_bits}
use lib.Ieee.Digits.{minus_val}
use lib.Ieee.Exact.{HasValue}
use lib.Ieee.Bits.{of_bits-fits}
use lib.Ieee.Scale.{finite}
use Rattle.number.specs.Leaves.{next_down}
use Rattle.number.proofs.Patterns.{size_at, sizes_rise, sizes_tell, Pattern, pattern_below, pattern_of, pattern_pos, pattern_value, pattern_negative}
use Rattle.number.proofs.Patterns.{infinite_pos, infinite_written, infinite_negative}
use Rattle.number.proofs.Fractions.{plus_of, minus_of, lt→values, values→lt}
use Rattle.number.proofs.Order.{lt_number, lt_not_le, least, strictly_finite}

-- ---- the format holds it

unit_fits : (f : Format) → T (fits f (fin true 1 (minus 0 (low f))))
unfolding fits
unit_fits binary32 = tt
unit_fits binary64 = tt

pub next_fits : (f : Format) (x : Float) → T (fits f x) → T (fits f (next_down f x))
unfolding next_down
next_fits f nan F = F
next_fits f (inf true) F = F
next_fits f (inf false) F = of_bits-fits f _
next_fits f (fin s zero e) F = unit_fits f
next_fits f (fin false (suc m) e) F = of_bits-fits f _
next_fits f (fin true (suc m) e) F = of_bits-fits f _

-- ---- what it is, in units

-- below a zero
smallest_value : (f : Format) (s : Bool) (e : ℤ) → HasValue (next_down f (fin s zero e)) true 1 (2 ^ low f)
unfolding next_down
smallest_value f s e = (refl, minus_val 1 0 (low f))

-- below +infinity
largest_value : (f : Format) → HasValue (next_down f (inf false)) false (size_at f (ones f * hid f - 1)) (2 ^ low f)
unfolding next_down
largest_value f =
    subst (λ (n : ℕ). HasValue (of_bits f (n - 1)) false (size_at f (ones f * hid f - 1)) (2 ^ low f)) (sym (infinite_written f false ∙ zero-add (ones f * hid f)))
    (pattern_value f (ones f * hid f - 1) (omega (arith, infinite_pos f)))

-- below a value above zero, whose pattern is b
lower_value : (f : Format) (m : ℕ) (e : ℤ) (b : ℕ) → to_bits f (fin false (suc m) e) ≡ 0 + b → b < ones f * hid f
    → HasValue (next_down f (fin false (suc m) e)) false (size_at f (b - 1)) (2 ^ low f)
unfolding next_down
lower_value f m e b w h =
    subst (λ (n : ℕ). HasValue (of_bits f (n - 1)) false (size_at f (b - 1)) (2 ^ low f)) (sym (w ∙ zero-add b))
    (pattern_value f (b - 1) (omega arith))

-- below a value below zero, whose pattern is b after the sign: finite, or -infinity
deeper : (f : Format) (m : ℕ) (e : ℤ) (b : ℕ) → to_bits f (fin true (suc m) e) ≡ top f + b → b < ones f * hid f
    → HasValue (next_down f (fin true (suc m) e)) true (size_at f (b + 1)) (2 ^ low f) ⊎ ((next_down f (fin true (suc m) e) ≡ inf true) × (b + 1 ≡ ones f * hid f))
unfolding next_down
deeper f m e b w h =
    let at : to_bits f (fin true (suc m) e) + 1 ≡ top f + (b + 1) = ap (λ (n : ℕ). n + 1) w ∙ add_assoc (top f) b 1 in
    elim (eq-or-lt_of_le h) [
      | inl z ↦ inr (ap (of_bits f) (at ∙ ap (λ (n : ℕ). top f + n) (omega arith)) ∙ infinite_negative f, omega arith)
      | inr l ↦ inl (subst (λ (n : ℕ). HasValue (of_bits f n) true (size_at f (b + 1)) (2 ^ low f)) (sym at) (pattern_negative f (b + 1) (omega arith)))
    ]

-- ---- it is less

under_infinity : (x : Float) (s : Bool) (a c : ℕ) → HasValue x s a c → T (lt x (inf false))
unfolding lt
under_infinity nan s a c v = absurd v
under_infinity (inf t) s a c v = absurd v
under_infinity (fin t m e) s a c v = tt

zero_value : (f : Format) (s : Bool) (e : ℤ) → HasValue (fin s zero e) s 0 (2 ^ low f)
zero_value f s e = (refl, ap (λ (n : ℕ). n * 2 ^ low f) (zero-mul (up e)) ∙ zero-mul (2 ^ low f) ∙ sym (zero-mul (down e)))

pub next_less : (f : Format) (x : Float) → T (fits f x) → T (lt (inf true) x) → T (lt (next_down f x) x)
next_less f nan F h = absurd (lt_number (inf true) nan h).1
next_less f (inf true) F h = absurd (lt_not_le (inf true) (inf true) h (least (inf true) tt))
next_less f (inf false) F h = under_infinity (next_down f (inf false)) false (size_at f (ones f * hid f - 1)) (2 ^ low f) (largest_value f)
next_less f (fin s zero e) F h = values→lt (next_down f (fin s zero e)) (fin s zero e) true s 1 0 (2 ^ low f) (pow_pos (low f)) (smallest_value f s e) (zero_value f s e) (go s)
  where
    go : (s : Bool) → plus_of true 1 + minus_of s 0 < plus_of s 0 + minus_of true 1
    go true = omega arith
    go false = omega arith
next_less f (fin false (suc m) e) F h =
    let x = fin false (suc m) e in
    let p = pattern_of f false (suc m) e F in
    let b = p.0 in
    let B = pattern_pos f false m e b p.3 in
    values→lt (next_down f x) x false false (size_at f (b - 1)) (size_at f b) (2 ^ low f) (pow_pos (low f)) (lower_value f m e b p.2 p.1) p.3
    (omega (arith, sizes_rise f (b - 1) b (omega arith)))
next_less f (fin true (suc m) e) F h =
    let x = fin true (suc m) e in
    let p = pattern_of f true (suc m) e F in
    let b = p.0 in
    elim (deeper f m e b p.2 p.1) [
      | inl v ↦ values→lt (next_down f x) x true true (size_at f (b + 1)) (size_at f b) (2 ^ low f) (pow_pos (low f)) v p.3 (omega (arith, sizes_rise f b (b + 1) (omega arith)))
      | inr i ↦ subst (λ (v : Float). T (lt v x)) (sym i.0) h
    ]

-- ---- nothing lies between

-- ±b above a ≥ 0 is positive, and larger in size; below -a ≤ 0 it is negative, and larger in size
above→ : (t : Bool) (a b : ℕ) → plus_of false a + minus_of t b < plus_of t b + minus_of false a → (t ≡ false) × (a < b)
above→ false a b h = (refl, omega arith)
above→ true a b h = absurd (omega arith)

under→ : (t : Bool) (a b : ℕ) → plus_of t b + minus_of true a < plus_of true a + minus_of t b → (t ≡ true) × (a < b)
under→ false a b h = absurd (omega arith)
under→ true a b h = (refl, omega arith)

-- no ±b units lie between -1 and 0
none : (s t : Bool) (b : ℕ) → plus_of true 1 + minus_of t b < plus_of t b + minus_of true 1 → plus_of t b + minus_of s 0 < plus_of s 0 + minus_of t b → ⊥
none true true b h k = omega arith
none true false b h k = omega arith
none false true b h k = omega arith
none false false b h k = omega arith

module _ (f : Format) (y : Float) (G : T (fits f y)) (Y : T (finite y)) where
  abbrev q : Pattern f y
  q = pattern_below f y G Y

  -- y's pattern is larger than that of a value that it is above, or that it is below on the negative side, and smaller the other way round
  above : (x : Float) (b : ℕ) → HasValue x false (size_at f b) (2 ^ low f) → T (lt x y) → (q.sign ≡ false) × (b < q.magnitude)
  above x b v h =
      let n = size_at f q.magnitude in
      let r = above→ q.sign (size_at f b) n (lt→values x y false q.sign (size_at f b) n (2 ^ low f) (pow_pos (low f)) v q.value h) in
      (r.0, sizes_tell f b q.magnitude r.1)

  under : (x : Float) (b : ℕ) → HasValue x true (size_at f b) (2 ^ low f) → T (lt y x) → (q.sign ≡ true) × (b < q.magnitude)
  under x b v h =
      let n = size_at f q.magnitude in
      let r = under→ q.sign (size_at f b) n (lt→values y x q.sign true n (size_at f b) (2 ^ low f) (pow_pos (low f)) q.value v h) in
      (r.0, sizes_tell f b q.magnitude r.1)

  smaller : (x : Float) (b : ℕ) → q.sign ≡ false → HasValue x false (size_at f b) (2 ^ low f) → T (lt y x) → q.magnitude < b
  smaller x b s v h =
      sizes_tell f q.magnitude b
      (omega (arith, rw s at (lt→values y x q.sign false (size_at f q.magnitude) (size_at f b) (2 ^ low f) (pow_pos (low f)) q.value v h)))

  less_deep : (x : Float) (b : ℕ) → q.sign ≡ true → HasValue x true (size_at f b) (2 ^ low f) → T (lt x y) → q.magnitude < b
  less_deep x b s v h =
      sizes_tell f q.magnitude b
      (omega (arith, rw s at (lt→values x y true q.sign (size_at f b) (size_at f q.magnitude) (2 ^ low f) (pow_pos (low f)) v q.value h)))

pub next_nearest : (f : Format) (x y : Float) → T (fits f x) → T (fits f y) → T (lt (next_down f x) y) → T (lt y x) → ⊥
next_nearest f nan y F G h k = (lt_number y nan k).1
next_nearest f (inf true) y F G h k = lt_not_le y (inf true) k (least y (lt_number y (inf true) k).0)
next_nearest f (inf false) y F G h k =
    let Y = strictly_finite (next_down f (inf false)) y (inf false) h k in
    let a = above f y G Y (next_down f (inf false)) (ones f * hid f - 1) (largest_value f) h in
    omega (arith, (pattern_below f y G Y).small)
next_nearest f (fin s zero e) y F G h k =
    let x = fin s zero e in
    let q = pattern_below f y G (strictly_finite (next_down f x) y x h k) in
    let b = size_at f q.magnitude in
    none s q.sign b
    (lt→values (next_down f x) y true q.sign 1 b (2 ^ low f) (pow_pos (low f)) (smallest_value f s e) q.value h)
    (lt→values y x q.sign s b 0 (2 ^ low f) (pow_pos (low f)) q.value (zero_value f s e) k)
next_nearest f (fin false (suc m) e) y F G h k =
    let x = fin false (suc m) e in
    let Y = strictly_finite (next_down f x) y x h k in
    let p = pattern_of f false (suc m) e F in
    let b = p.0 in
    let a = above f y G Y (next_down f x) (b - 1) (lower_value f m e b p.2 p.1) h in
    omega (arith, smaller f y G Y x b a.0 p.3 k)
next_nearest f (fin true (suc m) e) y F G h k =
    let x = fin true (suc m) e in
    let Y = strictly_finite (next_down f x) y x h k in
    let p = pattern_of f true (suc m) e F in
    let b = p.0 in
    let a = under f y G Y x b p.3 k in
    elim (deeper f m e b p.2 p.1) [
      | inl v ↦ omega (arith, less_deep f y G Y (next_down f x) (b + 1) a.0 v h)
      | inr i ↦ omega (arith, (pattern_below f y G Y).small)
    ]
