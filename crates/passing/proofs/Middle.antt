-- The middle of two values above zero, in units of the format's smallest value: what `Mean` says of numbers, said of floats. In any format. Assumes nothing.
use mathlib.Core.Path.{◌≡◌, refl, sym, ap, ◌∙◌, subst}
use mathlib.Core.Logic.{◌⊎◌, inl, inr}
use mathlib.Core.Bool.{Bool, true, false, true≢false}
use Prim.Native.Nat.{ℕ, zero, suc, ◌+◌, ◌-◌, ◌*◌, ◌/◌, ◌%◌, ◌^◌, ◌≤◌, ◌<◌}
use native.Mathlib.Nat.{le_trans, le_of_eq, lt_of_lt_of_le, lt_of_le_of_lt, mod-lt, zero-lt-suc, mul-pos, mul-le-mul_right}
use native.Mathlib.Nat.{add-zero, mul-one, one-mul, mul_comm, mul_assoc, mul_left_comm, mul-div_cancel, mul-mod_left, mul-div-mul_right, pow-suc}
use native.Mathlib.Omega.{arith}
use lib.IntN.{negsuc}
use lib.Dec.{T}
use lib.Pow.{pow-add, pow_pos, pow_mono}
use lib.Ieee.{Float, nan, inf, fin, Format, prec, low, emax, hid, ones, up, down, size, round, sum, add, mul, le, lt, fits}
use lib.Ieee.Digits.{size-le}
use lib.Ieee.Fits.{two, two-le_pos, down_pos, add-fits}
use lib.Ieee.Exact.{HasValue}
use lib.Ieee.Nearest.{closest, closest_same}
use lib.Ieee.Order.{le_of_values}
use lib.Ieee.Scale.{round_same, round_val, grid, overflow}
use lib.Ieee.Positive.{positive, positive-finite, positive_of_value, value_pos, mul_at}
use Rattle.number.specs.Units.{units_of}
use Rattle.number.specs.Leaves.{negative}
use Rattle.number.proofs.Fractions.{ring, lt→values, values→lt}
use Rattle.number.proofs.Order.{lt_not_le}
use Rattle.number.proofs.Patterns.{size_at, tiny, normal, sizes_rise, units_of_value, pattern_below, units_value}
use Rattle.passing.proofs.Digits.{le_or_lt, cut, rnd, Short, below_short, many, rnd_le, rnd_self}
use Rattle.passing.proofs.Mean.{Half, mean_within}

-- ---- a value that is a whole number of units

-- x is n units
abbrev pub At : Format → Float → ℕ → Type 0
At f x n = HasValue x false n (2 ^ low f)

pub at_le : (f : Format) (x y : Float) (a b : ℕ) → At f x a → At f y b → a ≤ b → T (le x y)
at_le f x y a b h k l = le_of_values x y a (2 ^ low f) b (2 ^ low f) (pow_pos (low f)) (pow_pos (low f)) h k (mul-le-mul_right (2 ^ low f) l)

pub at_lt : (f : Format) (x y : Float) (a b : ℕ) → At f x a → At f y b → a < b → T (lt x y)
at_lt f x y a b h k l = values→lt x y false false a b (2 ^ low f) (pow_pos (low f)) h k (omega arith)

pub lt_at : (f : Format) (x y : Float) (a b : ℕ) → At f x a → At f y b → T (lt x y) → a < b
lt_at f x y a b h k l = omega (arith, lt→values x y false false a b (2 ^ low f) (pow_pos (low f)) h k l)

pub le_at : (f : Format) (x y : Float) (a b : ℕ) → At f x a → At f y b → T (le x y) → a ≤ b
le_at f x y a b h k l = elim (le_or_lt a b) [ inl g ↦ g | inr g ↦ absurd (lt_not_le y x (at_lt f y x b a k h g) l) ]

-- ---- a finite value above zero that the format holds

pub record Held (f : Format) (x : Float) : Type 0 where
  pub fit : T (fits f x)
  pub above : T (positive x)

not_negative : (x : Float) → T (positive x) → negative x ≡ false
unfolding negative
not_negative nan p = absurd p
not_negative (inf s) p = absurd p
not_negative (fin true m e) p = absurd p
not_negative (fin false m e) p = refl

pub some_digits : (f : Format) → 0 < prec f
some_digits f = two-le_pos (prec f) (two f)

-- the leading digit's weight
hid_twice : (f : Format) → hid f + hid f ≡ 2 ^ prec f
hid_twice f = omega (arith, ap (λ (z : ℕ). 2 ^ z) (back_one (prec f) (some_digits f)), pow-suc 2 (prec f - 1))
  where
    back_one : (p : ℕ) → 0 < p → p ≡ suc (p - 1)
    back_one p h = omega arith

size_short : (f : Format) (b : ℕ) → Short (prec f) (size_at f b)
size_short f b = elim (le_or_lt (hid f) b) [
  | inl l ↦ record { lead = hid f + b % hid f; zeros = b / hid f - 1; few = omega (arith, hid_twice f, mod-lt b (pow_pos (prec f - 1))); is = normal f b l }
  | inr l ↦ below_short (prec f) (size_at f b) (omega (arith, hid_twice f, tiny f b l))
]

-- the infinities' pattern would be the first size that overflows
infinite_size : (f : Format) → size_at f (ones f * hid f) ≡ overflow f
infinite_size f =
    let c = ones f * hid f in
    normal f c (omega (arith, mul-le-mul_right (hid f) (zero-lt-suc (2 * emax f)), one-mul (hid f)))
    ∙ ap (λ (z : ℕ). (hid f + z) * 2 ^ (c / hid f - 1)) (mul-mod_left (ones f) (hid f))
    ∙ ap (λ (z : ℕ). (hid f + 0) * 2 ^ (z - 1)) (mul-div_cancel (ones f) (pow_pos (prec f - 1)))
    ∙ ap (λ (z : ℕ). z * 2 ^ (ones f - 1)) (add-zero (hid f))
    ∙ sym (pow-add 2 (prec f - 1) (ones f - 1))
    ∙ ap (λ (z : ℕ). 2 ^ z) (exponents (prec f) (emax f) (two f))
  where
    exponents : (p e : ℕ) → 2 ≤ p → p - 1 + (2 * e + 1 - 1) ≡ e + p - 2 + suc e
    exponents p e h = omega arith

size_fine : (f : Format) (b : ℕ) → b < ones f * hid f → size_at f b < overflow f
size_fine f b h = lt_of_lt_of_le (sizes_rise f b (ones f * hid f) h) (le_of_eq (infinite_size f))

module _ (f : Format) (x : Float) (H : Held f x) where
  pub units_at : At f x (units_of f x)
  units_at = subst (λ (s : Bool). HasValue x s (units_of f x) (2 ^ low f)) (not_negative x H.above) (units_value f x H.fit (positive-finite x H.above))

  pub units_pos : 0 < units_of f x
  units_pos = value_pos x (units_of f x) (2 ^ low f) H.above (pow_pos (low f)) units_at

  pub units_short : Short (prec f) (units_of f x)
  units_short =
      let p = pattern_below f x H.fit (positive-finite x H.above) in
      subst (Short (prec f)) (sym (units_of_value f x p.sign (size_at f p.magnitude) p.value)) (size_short f p.magnitude)

  pub units_fine : units_of f x < overflow f
  units_fine =
      let p = pattern_below f x H.fit (positive-finite x H.above) in
      subst (λ (n : ℕ). n < overflow f) (sym (units_of_value f x p.sign (size_at f p.magnitude) p.value)) (size_fine f p.magnitude p.small)

-- ---- rounding n units

grid_is : (f : Format) (n : ℕ) → grid f n (2 ^ low f) ≡ rnd (prec f) n
grid_is f n =
    let l = 2 ^ low f in
    let L : 0 < l = pow_pos (low f) in
    let k : size (n * l / l) - prec f ≡ cut (prec f) n = ap (λ (z : ℕ). size z - prec f) (mul-div_cancel n L) in
    let c = 2 ^ cut (prec f) n in
    let C : 0 < c = pow_pos (cut (prec f) n) in
    ap (λ (z : ℕ). closest (n * l) (l * 2 ^ z) * 2 ^ z) k
    ∙ ap (λ (z : ℕ). z * c) (closest_same (n * l) (l * c) n c (mul-pos L C) C (mul_assoc n l c))

round_at : (f : Format) (n : ℕ) → rnd (prec f) n < overflow f → At f (round f false n (2 ^ low f)) (rnd (prec f) n)
round_at f n h = subst (λ (z : ℕ). At f (round f false n (2 ^ low f)) z) (grid_is f n) (round_val f n (2 ^ low f) (rw grid_is h))

-- ---- the sum

add_is : (f : Format) (x y : Float) (a b : ℕ) → At f x a → At f y b → add f x y ≡ round f false (a + b) (2 ^ low f)
unfolding add sum
add_is f nan y a b h k = absurd h
add_is f (inf s) y a b h k = absurd h
add_is f (fin true m e) y a b h k = absurd (true≢false h.0)
add_is f (fin false m e) nan a b h k = absurd k
add_is f (fin false m e) (inf t) a b h k = absurd k
add_is f (fin false m e) (fin true n d) a b h k = absurd (true≢false k.0)
add_is f (fin false m e) (fin false n d) a b h k =
    round_same f false (m * up e * down d + n * up d * down e) (down e * down d) (a + b) (2 ^ low f) (mul-pos (down_pos e) (down_pos d)) (pow_pos (low f))
    (both (m * up e) (n * up d) (down e) (down d) a b (2 ^ low f) h.1 k.1)
  where
    both : (x y c d a b l : ℕ) → x * l ≡ a * c → y * l ≡ b * d → (x * d + y * c) * l ≡ (a + b) * (c * d)
    both x y c d a b l p q = simp ring (omega (arith, simp ring at (ap (λ (z : ℕ). z * d) p), simp ring at (ap (λ (z : ℕ). z * c) q)))

pub add_at : (f : Format) (x y : Float) (a b c : ℕ) → At f x a → At f y b → Short (prec f) c → c < overflow f → a + b ≤ c → At f (add f x y) (rnd (prec f) (a + b))
add_at f x y a b c h k s o l = rw (add_is f x y a b h k) (round_at f (a + b) (lt_of_le_of_lt (rnd_le (prec f) (some_digits f) (a + b) c s l) o))

-- ---- a half

abbrev pub half : Float
half = fin false 1 (negsuc 0)

half_short : (p a : ℕ) → Short p a → a % 2 ≡ 0 → Short p (a / 2)
half_short p a s e = go s.zeros s.lead s.few s.is
  where
    go : (z l : ℕ) → l < 2 ^ p → a ≡ l * 2 ^ z → Short p (a / 2)
    go zero l h i = below_short p (a / 2) (omega (arith, mul-one l))
    go (suc z) l h i = record { lead = l; zeros = z; few = h; is = omega (arith, i, ap (λ (w : ℕ). l * w) (pow-suc 2 z), mul_assoc l (2 ^ z) 2) }

mul_half : (f : Format) (x : Float) (a : ℕ) → At f x a → 0 < a → mul f half x ≡ round f false (1 * a) (2 * 2 ^ low f)
mul_half f x a h A = mul_at f half x 1 2 a (2 ^ low f) tt (positive_of_value x a (2 ^ low f) h A) (zero-lt-suc 1) (pow_pos (low f)) (refl, refl) h

-- of an even number of units: exact
even_half : (f : Format) (x : Float) (a : ℕ) → At f x a → 0 < a → Short (prec f) a → a < overflow f → a % 2 ≡ 0 → At f (mul f half x) (a / 2)
even_half f x a h A s o e =
    let l = 2 ^ low f in
    let q : rnd (prec f) (a / 2) ≡ a / 2 = rnd_self (prec f) (a / 2) (some_digits f) (half_short (prec f) a s e) in
    let L : 0 < l = pow_pos (low f) in
    let i : mul f half x ≡ round f false (a / 2) l =
    mul_half f x a h A ∙ round_same f false (1 * a) (2 * l) (a / 2) l (mul-pos (zero-lt-suc 1) L) L (same a (a / 2) l (omega arith)) in
    rw i (subst (λ (z : ℕ). At f (round f false (a / 2) l) z) q (round_at f (a / 2) (lt_of_le_of_lt (le_of_eq q) (omega arith))))
  where
    same : (a b l : ℕ) → a ≡ b * 2 → 1 * a * l ≡ b * (2 * l)
    same a b l e = ap (λ (z : ℕ). z * l) (one-mul a ∙ e) ∙ mul_assoc b 2 l

-- of an odd number of units, which has few digits: to the even one
grid_half : (f : Format) (a : ℕ) → a < 2 ^ prec f → grid f (1 * a) (2 * 2 ^ low f) ≡ closest a 2
grid_half f a h =
    let l = 2 ^ low f in
    let L : 0 < l = pow_pos (low f) in
    let q : 1 * a * l / (2 * l) ≡ 1 * a / 2 = mul-div-mul_right (1 * a) 2 L in
    let k : size (1 * a * l / (2 * l)) - prec f ≡ 0 = ap (λ (z : ℕ). size z - prec f) q ∙ none (size-le (1 * a / 2) (prec f) (omega arith)) in
    ap (λ (z : ℕ). closest (1 * a * l) (2 * l * 2 ^ z) * 2 ^ z) k
    ∙ mul-one (closest (1 * a * l) (2 * l * 1))
    ∙ closest_same (1 * a * l) (2 * l * 1) a 2 (mul-pos (mul-pos (zero-lt-suc 1) L) (zero-lt-suc 0)) (zero-lt-suc 1) (same a l)
  where
    none : {x y : ℕ} → x ≤ y → x - y ≡ 0
    none h = omega arith

    same : (a l : ℕ) → 1 * a * l * 2 ≡ a * (2 * l * 1)
    same a l = simp (mul-one, one-mul, mul_assoc, mul_comm, mul_left_comm)

odd_closest : (a : ℕ) → a % 2 ≡ 1 → closest a 2 ≡ a / 2 + a / 2 % 2
odd_closest a e = rw e

odd_half : (f : Format) (x : Float) (a : ℕ) → At f x a → a < 2 ^ prec f → a < overflow f → a % 2 ≡ 1 → At f (mul f half x) (a / 2 + a / 2 % 2)
odd_half f x a h s o e =
    let l = 2 ^ low f in
    let q : grid f (1 * a) (2 * l) ≡ a / 2 + a / 2 % 2 = grid_half f a s ∙ odd_closest a e in
    rw (mul_half f x a h (omega arith)) (subst (λ (z : ℕ). At f (round f false (1 * a) (2 * l)) z) q (round_val f (1 * a) (2 * l) (lt_of_le_of_lt (le_of_eq q) (omega arith))))

pub record Halved (f : Format) (x : Float) : Type 0 where
  pub units : ℕ
  pub at : At f (mul f half x) units
  pub is_half : Half (units_of f x) units

pub half_of : (f : Format) (x : Float) → Held f x → Halved f x
half_of f x H = go (a % 2) refl (le_or_lt (2 ^ prec f) a) (units_at f x H) (units_short f x H) (units_fine f x H)
  where
    a : ℕ
    a = units_of f x

    go : (r : ℕ) → a % 2 ≡ r → (2 ^ prec f ≤ a) ⊎ (a < 2 ^ prec f) → At f x a → Short (prec f) a → a < overflow f → Halved f x
    go zero e d h s o = record {
      units = a / 2;
      at = even_half f x a h (units_pos f x H) s o e;
      is_half = record { up = omega arith; down = omega arith; tie = λ t. absurd (omega arith) };
    }
    go (suc zero) e (inl l) h s o = let t = many (prec f) 1 a (some_digits f) s (le_trans (pow_mono (omega (arith, some_digits f))) l) in absurd (omega (arith, t.1))
    go (suc zero) e (inr l) h s o = record {
      units = a / 2 + a / 2 % 2;
      at = odd_half f x a h l o e;
      is_half = record { up = omega arith; down = omega arith; tie = λ t. omega arith };
    }
    go (suc (suc r)) e d h s o = absurd (omega arith)

-- ---- the middle

abbrev pub mean : Format → Float → Float → Float
mean f x y = add f (mul f half x) (mul f half y)

-- it is the rounded sum of the two halves
pub record Mean (f : Format) (x y : Float) : Type 0 where
  pub left : ℕ
  pub right : ℕ
  pub first : Half (units_of f x) left
  pub second : Half (units_of f y) right
  pub at : At f (mean f x y) (rnd (prec f) (left + right))
  pub held : Held f (mean f x y)
  pub units : units_of f (mean f x y) ≡ rnd (prec f) (left + right)
  pub from : units_of f x ≤ rnd (prec f) (left + right)
  pub upto : rnd (prec f) (left + right) ≤ units_of f y

pub mean_of : (f : Format) (x y : Float) → Held f x → Held f y → T (lt x y) → Mean f x y
mean_of f x y H K l =
    let p = half_of f x H in
    let q = half_of f y K in
    let less = lt_at f x y (units_of f x) (units_of f y) (units_at f x H) (units_at f y K) l in
    let w = mean_within (prec f) (units_of f x) (units_of f y) p.units q.units (some_digits f) (units_short f x H) (units_short f y K) p.is_half q.is_half less in
    let n = rnd (prec f) (p.units + q.units) in
    let v : At f (mean f x y) n =
    add_at f (mul f half x) (mul f half y) p.units q.units (units_of f y) p.at q.at
    (units_short f y K) (units_fine f y K) (omega (arith, p.is_half.up, q.is_half.up)) in
    record {
      left = p.units;
      right = q.units;
      first = p.is_half;
      second = q.is_half;
      at = v;
      held = record { fit = add-fits f (mul f half x) (mul f half y); above = positive_of_value (mean f x y) n (2 ^ low f) v (lt_of_lt_of_le (units_pos f x H) w.0) };
      units = units_of_value f (mean f x y) false n v;
      from = w.0;
      upto = w.1;
    }
