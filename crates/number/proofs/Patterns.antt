-- What a bit pattern stands for, in units of the format's smallest value, in any format. A pattern is the sign's weight and
-- a magnitude's pattern b: below `ones f * hid f` b is finite, there it is an infinity, above it a NaN.
-- Magnitudes' patterns sort as the values do. Assumes nothing.
use Rattle.std.proofs.Common.{◌≡◌, ℕ, zero, suc, ◌+◌, ◌-◌, ◌*◌, ◌/◌, ◌%◌, ◌^◌, ◌<◌, ◌≤◌, Bool, true, false, cond, not, T, eqb, leb, ◌⊎◌, ℤ, sym, refl, ap, ◌∙◌, subst, ap₂, inl, inr, le_trans, lt_trans, le_of_eq, lt_of_lt_of_le, le-add_right, lt_irrefl, mul-le-mul_right, mod-lt, mod-eq_of_lt, zero-lt-suc, mul_assoc, div-lt_iff_lt-mul, eq-zero-or-pos, eq-or-lt_of_le, mul-le-mul_left, mul-lt-mul_of_pos_right, mul-pos, pow-suc, lt_of_not-le, div-add-mod', zero-add, zero-mul, mul-one, mul_right_comm, mul-div_cancel, arith, leb→le, nltb→le, pow_pos, pow_mono, pow-add, le-ltb, eq-eqb, ne_eqb, le-leb}
use native.Mathlib.Nat.{div-eq_of_lt, mod-eq-sub-mod}
use native.Mathlib.Nat.{add-mod_left, mul-add-mod_self_left, mul-mod_left, pow-succ'}
use borrow.Author.Tests.{lt-leb}
use lib.Dec.{nleb→lt}
use lib.Pow.{shr_mono}
use lib.Ieee.{Float, nan, inf, fin, Format, prec, emax, low, up, down, size, odd, round, fits, hid, ones, top, of_fields, of_bits, nan_bits, to_bits}
use lib.Ieee.Fits.{up_pos, down_pos, two, round-fits}
use lib.Ieee.Exact.{HasValue, odd_sign, round_exact}
use lib.Ieee.Bits.{of_bits-to_bits, to_bits-lt, nan_bits_is, nan_bits_above}
use lib.Ieee.Nearest.{div_same}
use lib.Ieee.Scale.{finite}
use lib.Ieee.Positive.{den}
use Rattle.number.specs.Units.{units_of}
use Rattle.number.specs.Leaves.{negative}
use Rattle.number.proofs.Fractions.{plus_part, minus_part}
use Rattle.number.proofs.Rounded.{Rounds}
use Rattle.number.proofs.Order.{finite_number, not_nan}

-- ---- the size in units

-- by the exponent's field and the digits below the leading one, which a field of 0 lacks
abbrev pub fields_size : Format → ℕ → ℕ → ℕ
fields_size f zero t = t
fields_size f (suc x) t = (hid f + t) * 2 ^ x

unfoldable pub size_at : Format → ℕ → ℕ
size_at f b = fields_size f (b / hid f) (b % hid f)

hid_pos : (f : Format) → 0 < hid f
hid_pos f = pow_pos (prec f - 1)

-- below the smallest normal value
pub tiny : (f : Format) (b : ℕ) → b < hid f → size_at f b ≡ b
unfolding size_at
tiny f b h = ap (λ (x : ℕ). fields_size f x (b % hid f)) (div-eq_of_lt h) ∙ mod-eq_of_lt h

pub normal : (f : Format) (b : ℕ) → hid f ≤ b → size_at f b ≡ (hid f + b % hid f) * 2 ^ (b / hid f - 1)
unfolding size_at
normal f b h = go (b / hid f) refl
  where
    go : (q : ℕ) → b / hid f ≡ q → fields_size f q (b % hid f) ≡ (hid f + b % hid f) * 2 ^ (q - 1)
    go zero e = absurd (lt_irrefl b (lt_of_lt_of_le ((div-lt_iff_lt-mul {k = hid f} {x = b} {y = 1} (hid_pos f)).0 (omega arith)) (omega arith)))
    go (suc x) e = ap (λ (k : ℕ). (hid f + b % hid f) * 2 ^ k) (omega arith)

-- ---- the value

top_pos : (f : Format) → 0 < top f
top_pos f = mul-pos (hid_pos f) (zero-lt-suc (ones f))

-- a magnitude's pattern is below the sign's weight
pub below_sign : (f : Format) (b : ℕ) → b ≤ ones f * hid f → b < top f
below_sign f b h = omega (arith, hid_pos f)

-- a sign and a magnitude's pattern are read as the sign and the two fields
read : (f : Format) (s : Bool) (b : ℕ) → b < top f → of_bits f (cond s (top f) 0 + b) ≡ of_fields f s (b / hid f) (b % hid f)
unfolding of_bits
read f true b h =
    let t = top f + b in
    ap (λ (s : Bool). of_fields f s (t % top f / hid f) (t % hid f)) (le-leb (top f) t (le-add_right (top f) b))
    ∙ ap₂ (λ (x y : ℕ). of_fields f true (x / hid f) y) (add-mod_left (top f) b ∙ mod-eq_of_lt h) (mul-add-mod_self_left (hid f) (suc (ones f)) b)
read f false b h =
    ap (of_bits f) (zero-add b)
    ∙ ap (λ (s : Bool). of_fields f s (b % top f / hid f) (b % hid f)) (lt-leb (top f) b h)
    ∙ ap (λ (x : ℕ). of_fields f false (x / hid f) (b % hid f)) (mod-eq_of_lt h)

fields_value : (f : Format) (s : Bool) (x t : ℕ) → x < ones f → HasValue (of_fields f s x t) s (fields_size f x t) (2 ^ low f)
unfolding of_fields
fields_value f s zero t h = subst (λ (a : ℕ). HasValue (odd (prec f) s t 0 (low f)) s a (2 ^ low f)) (mul-one t) (odd_sign (prec f) s t 0 (low f))
fields_value f s (suc x) t h =
    subst (λ (b : Bool). HasValue (cond b (cond (eqb t 0) (inf s) nan) (odd (prec f) s (hid f + t) x (low f))) s ((hid f + t) * 2 ^ x) (2 ^ low f))
    (sym (ne_eqb (suc x) (ones f) (λ e. omega arith)))
    (odd_sign (prec f) s (hid f + t) x (low f))

pub pattern_signed : (f : Format) (s : Bool) (b : ℕ) → b < ones f * hid f → HasValue (of_bits f (cond s (top f) 0 + b)) s (size_at f b) (2 ^ low f)
unfolding size_at
pattern_signed f s b h =
    subst (λ (v : Float). HasValue v s (size_at f b) (2 ^ low f)) (sym (read f s b (below_sign f b (omega arith))))
    (fields_value f s (b / hid f) (b % hid f) ((div-lt_iff_lt-mul (hid_pos f)).1 h))

pub pattern_value : (f : Format) (b : ℕ) → b < ones f * hid f → HasValue (of_bits f b) false (size_at f b) (2 ^ low f)
pattern_value f b h = subst (λ (n : ℕ). HasValue (of_bits f n) false (size_at f b) (2 ^ low f)) (zero-add b) (pattern_signed f false b h)

pub pattern_negative : (f : Format) (b : ℕ) → b < ones f * hid f → HasValue (of_bits f (top f + b)) true (size_at f b) (2 ^ low f)
pattern_negative f b h = pattern_signed f true b h

-- ---- the infinities

fields_infinite : (f : Format) (s : Bool) (x : ℕ) → x ≡ ones f → of_fields f s x 0 ≡ inf s
unfolding of_fields
fields_infinite f s zero e = absurd (none (emax f) e)
  where
    none : (e : ℕ) → 0 ≡ 2 * e + 1 → ⊥
    none e h = omega arith
fields_infinite f s (suc x) e = ap (λ (b : Bool). cond b (inf s) (odd (prec f) s (hid f + 0) x (low f))) (eq-eqb (suc x) (ones f) e)

pub infinite_signed : (f : Format) (s : Bool) → of_bits f (cond s (top f) 0 + ones f * hid f) ≡ inf s
infinite_signed f s =
    read f s (ones f * hid f) (below_sign f (ones f * hid f) (le_of_eq refl))
    ∙ ap (λ (t : ℕ). of_fields f s (ones f * hid f / hid f) t) (mul-mod_left (ones f) (hid f))
    ∙ fields_infinite f s (ones f * hid f / hid f) (mul-div_cancel (ones f) (hid_pos f))

pub infinite_written : (f : Format) (s : Bool) → to_bits f (inf s) ≡ cond s (top f) 0 + ones f * hid f
unfolding to_bits
infinite_written f s = refl

pub infinite_pos : (f : Format) → 0 < ones f * hid f
infinite_pos f = mul-pos (omega arith) (hid_pos f)

pub infinite_value : (f : Format) → of_bits f (ones f * hid f) ≡ inf false
infinite_value f = ap (of_bits f) (sym (zero-add (ones f * hid f))) ∙ infinite_signed f false

pub infinite_negative : (f : Format) → of_bits f (top f + ones f * hid f) ≡ inf true
infinite_negative f = infinite_signed f true

-- ---- the sign, and NaN

-- what is left of a pattern without its sign
pub sign_off : (f : Format) (s : Bool) (b : ℕ) → b < top f → (cond s (top f) 0 + b) % top f ≡ b
sign_off f true b l = add-mod_left (top f) b ∙ mod-eq_of_lt l
sign_off f false b l = ap (λ (n : ℕ). n % top f) (zero-add b) ∙ mod-eq_of_lt l

pub not_nan_bits : (f : Format) (n : ℕ) → n % top f ≤ ones f * hid f → T (not (nan_bits f n))
not_nan_bits f n h = rw (nan_bits_above f n, le-ltb (ones f * hid f) (n % top f) h) tt

-- ---- patterns sort as the sizes do

below_twice : (h t : ℕ) → t < h → h + t < h * 2
below_twice h t l = omega arith

fields_under : (f : Format) (x t : ℕ) → t < hid f → fields_size f x t < hid f * 2 ^ x
fields_under f zero t h = subst (λ (n : ℕ). t < n) (sym (mul-one (hid f))) h
fields_under f (suc x) t h =
    lt_of_lt_of_le (mul-lt-mul_of_pos_right (below_twice (hid f) t h) (pow_pos x)) (le_of_eq (mul_assoc (hid f) 2 (2 ^ x) ∙ ap (λ (p : ℕ). hid f * p) (sym (pow-succ' 2 x))))

fields_rise : (f : Format) (x t y u : ℕ) → t < hid f → x < y → fields_size f x t < fields_size f y u
fields_rise f x t zero u h l = absurd (omega arith)
fields_rise f x t (suc y) u h l =
    lt_of_lt_of_le (fields_under f x t h) (le_trans (mul-le-mul_left (hid f) (pow_mono {i = x} {j = y} (omega arith))) (mul-le-mul_right (2 ^ y) (le-add_right (hid f) u)))

digits_rise : (f : Format) (x t u : ℕ) → t < u → fields_size f x t < fields_size f x u
digits_rise f zero t u h = h
digits_rise f (suc x) t u h = mul-lt-mul_of_pos_right (further (hid f)) (pow_pos x)
  where
    further : (n : ℕ) → n + t < n + u
    further n = omega arith

pub sizes_rise : (f : Format) (a b : ℕ) → a < b → size_at f a < size_at f b
unfolding size_at
sizes_rise f a b l = go (eq-or-lt_of_le (shr_mono {a = a} {b = b} (prec f - 1) (omega arith)))
  where
    go : (a / hid f ≡ b / hid f) ⊎ (a / hid f < b / hid f) → fields_size f (a / hid f) (a % hid f) < fields_size f (b / hid f) (b % hid f)
    go (inl e) =
        let m : a / hid f * hid f ≡ b / hid f * hid f = ap (λ (q : ℕ). q * hid f) e in
        subst (λ (q : ℕ). fields_size f q (a % hid f) < fields_size f (b / hid f) (b % hid f)) (sym e)
        (digits_rise f (b / hid f) (a % hid f) (b % hid f) (omega (arith, div-add-mod' a (hid f), div-add-mod' b (hid f))))
    go (inr h) = fields_rise f (a / hid f) (a % hid f) (b / hid f) (b % hid f) (mod-lt a (hid_pos f)) h

pub sizes_tell : (f : Format) (a b : ℕ) → size_at f a < size_at f b → a < b
sizes_tell f a b h = lt_of_not-le (λ g. elim (eq-or-lt_of_le g) [
  | inl e ↦ lt_irrefl (size_at f b) (subst (λ (n : ℕ). size_at f n < size_at f b) (sym e) h)
  | inr l ↦ lt_irrefl (size_at f a) (lt_trans h (sizes_rise f b a l))
])

-- ---- from a value to its units

units_of_fraction : (f : Format) (x : Float) (s : Bool) (a c : ℕ) → 0 < c → HasValue x s a c → units_of f x ≡ a * 2 ^ low f / c
units_of_fraction f nan s a c C h = absurd h
units_of_fraction f (inf t) s a c C h = absurd h
units_of_fraction f (fin t m e) s a c C h =
    let l = 2 ^ low f in
    div_same (m * up e * l) (down e) (a * l) c (down_pos e) C (mul_right_comm (m * up e) l c ∙ ap (λ (n : ℕ). n * l) h.1 ∙ mul_right_comm a (down e) l)

pub units_of_value : (f : Format) (x : Float) (s : Bool) (a : ℕ) → HasValue x s a (2 ^ low f) → units_of f x ≡ a
units_of_value f x s a h = units_of_fraction f x s a (2 ^ low f) (pow_pos (low f)) h ∙ mul-div_cancel a (pow_pos (low f))

pub units_of_pattern : (f : Format) (s : Bool) (b : ℕ) → b < ones f * hid f → units_of f (of_bits f (cond s (top f) 0 + b)) ≡ size_at f b
units_of_pattern f s b h = units_of_value f (of_bits f (cond s (top f) 0 + b)) s (size_at f b) (pattern_signed f s b h)

-- ---- from a value to its pattern

-- x is what a sign and a finite magnitude's pattern are read as, and what is written for x
pub record Pattern (f : Format) (x : Float) : Type 0 where
  pub sign : Bool
  pub magnitude : ℕ
  pub small : magnitude < ones f * hid f
  pub written : to_bits f x ≡ cond sign (top f) 0 + magnitude
  pub reads : of_bits f (cond sign (top f) 0 + magnitude) ≡ x
  pub value : HasValue x sign (size_at f magnitude) (2 ^ low f)

-- a number below 2 * c is its upper half's weight and the rest
halves : (c n : ℕ) → 0 < c → n < 2 * c → n ≡ cond (leb c n) c 0 + n % c
halves c n C h = go (leb c n) (leb→le c n) (nleb→lt c n)
  where
    go : (b : Bool) → (T b → c ≤ n) → (T (not b) → n < c) → n ≡ cond b c 0 + n % c
    go true l g = let c≤n = l tt in let r : n - c < c = omega arith in let e : n % c ≡ n - c = mod-eq-sub-mod c≤n ∙ mod-eq_of_lt r in omega arith
    go false l g = sym (zero-add (n % c) ∙ mod-eq_of_lt (g tt))

pub number_bits : (f : Format) (n : ℕ) → T (finite (of_bits f n)) → n % top f ≤ ones f * hid f
number_bits f n h =
    nltb→le (ones f * hid f) (n % top f) (subst (λ (t : Bool). T (not t)) (sym (nan_bits_is f n) ∙ nan_bits_above f n) (not_nan (of_bits f n) (finite_number (of_bits f n) h)))

pub pattern_below : (f : Format) (x : Float) → T (fits f x) → T (finite x) → Pattern f x
pattern_below f x F h =
    let n = to_bits f x in
    let b = n % top f in
    let s = leb (top f) n in
    let split : n ≡ cond s (top f) 0 + b = halves (top f) n (top_pos f) (to_bits-lt f x F) in
    let back : of_bits f n ≡ x = of_bits-to_bits f x F in
    let number : b ≤ ones f * hid f = number_bits f n (subst (λ (v : Float). T (finite v)) (sym back) h) in
    let below : b < ones f * hid f = elim (eq-or-lt_of_le number) [
      | inl e ↦ absurd (subst (λ (v : Float). T (finite v)) (sym back ∙ ap (of_bits f) (split ∙ ap (λ (c : ℕ). cond s (top f) 0 + c) e) ∙ infinite_signed f s) h)
      | inr l ↦ l
    ] in
    let read : of_bits f (cond s (top f) 0 + b) ≡ x = ap (of_bits f) (sym split) ∙ back in
    record {
      sign = s;
      magnitude = b;
      small = below;
      written = split;
      reads = read;
      value = subst (λ (v : Float). HasValue v s (size_at f b) (2 ^ low f)) read (pattern_signed f s b below);
    }

-- with the value's own sign
pub pattern_of : (f : Format) (s : Bool) (m : ℕ) (e : ℤ) → T (fits f (fin s m e))
    → (b : ℕ) × (b < ones f * hid f) × (to_bits f (fin s m e) ≡ cond s (top f) 0 + b) × HasValue (fin s m e) s (size_at f b) (2 ^ low f)
pattern_of f s m e F =
    let p = pattern_below f (fin s m e) F tt in
    (p.magnitude, p.small, p.written ∙ ap (λ (t : Bool). cond t (top f) 0 + p.magnitude) (sym p.value.0), (refl, p.value.1))

-- every finite value that fits is a whole number of units
pub units_value : (f : Format) (x : Float) → T (fits f x) → T (finite x) → HasValue x (negative x) (units_of f x) (2 ^ low f)
unfolding negative
units_value f nan F h = absurd h
units_value f (inf s) F h = absurd h
units_value f (fin s m e) F h =
    let p = pattern_of f s m e F in
    subst (λ (a : ℕ). HasValue (fin s m e) s a (2 ^ low f)) (sym (units_of_value f (fin s m e) s (size_at f p.0) p.3)) p.3

-- the pattern of a value that is not zero is not zero
pub pattern_pos : (f : Format) (s : Bool) (m : ℕ) (e : ℤ) (b : ℕ) → HasValue (fin s (suc m) e) s (size_at f b) (2 ^ low f) → 0 < b
pattern_pos f s m e b v = elim (eq-zero-or-pos b) [
  | inl z ↦
      let none = v.1 ∙ ap (λ (n : ℕ). n * down e) (ap (size_at f) z ∙ tiny f 0 (hid_pos f)) ∙ zero-mul (down e) in
      let some = mul-pos (mul-pos (zero-lt-suc m) (up_pos e)) (pow_pos (low f)) in
      absurd (lt_irrefl 0 (subst (λ (n : ℕ). 0 < n) none some))
  | inr p ↦ p
]

-- ---- a value that fits is known by its sign and its size

signed_bits : Format → Bool → ℕ → ℕ
signed_bits f s n = cond s (top f) 0 + (size n - prec f) * hid f + n / 2 ^ (size n - prec f)

bits_by_units : (f : Format) (s : Bool) (m : ℕ) (e : ℤ) → to_bits f (fin s m e) ≡ signed_bits f s (units_of f (fin s m e))
unfolding to_bits signed_bits
bits_by_units f s m e = refl

pub one_value : (f : Format) (x y : Float) (s : Bool) (a c : ℕ) → 0 < c → T (fits f x) → T (fits f y) → HasValue x s a c → HasValue y s a c → x ≡ y
one_value f nan y s a c C F G h k = absurd h
one_value f (inf t) y s a c C F G h k = absurd h
one_value f (fin t m e) nan s a c C F G h k = absurd k
one_value f (fin t m e) (inf u) s a c C F G h k = absurd k
one_value f (fin t m e) (fin u n d) s a c C F G h k =
    let same : units_of f (fin t m e) ≡ units_of f (fin u n d) = units_of_fraction f (fin t m e) s a c C h ∙ sym (units_of_fraction f (fin u n d) s a c C k) in
    sym (of_bits-to_bits f (fin t m e) F)
    ∙ ap (of_bits f) (bits_by_units f t m e ∙ ap₂ (signed_bits f) (h.0 ∙ sym k.0) same ∙ sym (bits_by_units f u n d))
    ∙ of_bits-to_bits f (fin u n d) G

-- ---- what fits is rounded to itself

-- a finite size is below the overflow
fields_below : (f : Format) (x t : ℕ) → x < ones f → t < hid f → fields_size f x t < 2 ^ (low f + suc (emax f))
fields_below f x t X h =
    lt_of_lt_of_le (fields_under f x t h)
    (le_trans (le_of_eq (sym (pow-add 2 (prec f - 1) x))) (pow_mono {i = prec f - 1 + x} {j = low f + suc (emax f)} (reaches (prec f) (emax f) (two f) X)))
  where
    reaches : (p e : ℕ) → 2 ≤ p → x < 2 * e + 1 → p - 1 + x ≤ e + p - 2 + suc e
    reaches p e h l = omega arith

twice : (f : Format) → hid f * 2 ≡ 2 ^ prec f
twice f = sym (pow-suc 2 (prec f - 1)) ∙ ap (λ (k : ℕ). 2 ^ k) (back (prec f) (two f))
  where
    back : (p : ℕ) → 2 ≤ p → suc (p - 1) ≡ p
    back p h = omega arith

-- and has no more digits than the format keeps
fields_digits : (f : Format) (x t : ℕ) → t < hid f → (q : ℕ) × (j : ℕ) × (q * 2 ^ j ≡ fields_size f x t) × (q < 2 ^ prec f)
fields_digits f zero t h = (t, 0, mul-one t, lt_of_lt_of_le h (pow_mono {i = prec f - 1} {j = prec f} (omega arith)))
fields_digits f (suc x) t h = (hid f + t, x, refl, subst (λ (n : ℕ). hid f + t < n) (twice f) (below_twice (hid f) t h))

pub round_self : (f : Format) (s : Bool) (m : ℕ) (e : ℤ) → T (fits f (fin s m e)) → round f s (m * up e) (down e) ≡ fin s m e
unfolding size_at
round_self f s m e F =
    let p = pattern_of f s m e F in
    let b = p.0 in
    let t = b % hid f in
    let x : b / hid f < ones f = (div-lt_iff_lt-mul (hid_pos f)).1 p.1 in
    let h : t < hid f = mod-lt b (hid_pos f) in
    let d = fields_digits f (b / hid f) t h in
    one_value f (round f s (m * up e) (down e)) (fin s m e) s (m * up e) (down e) (down_pos e) (round-fits f s (m * up e) (down e)) F
    (round_exact f s (m * up e) (down e) d.0 d.1 (down_pos e) d.3 (subst (λ (n : ℕ). n < 2 ^ (low f + suc (emax f))) (sym d.2) (fields_below f (b / hid f) t x h))
    (p.3.1 ∙ ap (λ (n : ℕ). n * down e) (sym d.2)))
    (refl, refl)

-- a value of the format is its own rounding
pub own_rounds : (f : Format) (x : Float) → T (fits f x) → T (finite x) → Rounds f x (plus_part x) (minus_part x) (den x)
own_rounds f nan F X = absurd X
own_rounds f (inf s) F X = absurd X
own_rounds f (fin false m e) F X = inl (omega arith, sym (round_self f false m e F) ∙ ap (λ (n : ℕ). round f false n (down e)) (omega arith))
own_rounds f (fin true m e) F X = inr (omega arith, sym (round_self f true m e F) ∙ ap (λ (n : ℕ). round f true n (down e)) (omega arith))
