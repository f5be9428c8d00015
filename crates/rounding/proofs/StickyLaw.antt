-- The sticky law: `round` sees of its fraction only the whole part on a fine enough grid, and whether there is more.
use mathlib.Core.Path.{◌≡◌, sym, ap, ◌∙◌, subst}
use mathlib.Core.Logic.{◌⊎◌, inr, ⊎_elim}
use Prim.Native.Nat.{ℕ, suc, ◌+◌, ◌-◌, ◌*◌, ◌/◌, ◌%◌, ◌^◌, ◌≤◌, ◌<◌}
use native.Mathlib.Nat.{le_trans, le_of_eq, lt_of_lt_of_le, lt_of_not-le, not-le_of_lt, le-div_iff_mul-le, div-lt_iff_lt-mul, div-div-eq-div-mul}
use native.Mathlib.Nat.{mul_comm, mul_right_comm, mul-pos, mul-le-mul_right, mul-lt-mul_of_pos_right, eq_of_mul-eq-mul_right, pow-succ'}
use native.Mathlib.Omega.{arith}
use mathlib.Core.Bool.{Bool, true, false, not}
use lib.Dec.{T, ltb, ltb→lt, nltb→le}
use lib.Pow.{pow-add, pow_pos, pow_mono}
use lib.Ieee.{Format, prec, low, size, units, round}
use lib.Ieee.Digits.{size-lt, size-le, size_reaches}
use lib.Ieee.Fits.{round_is}
use lib.Ieee.Nearest.{closest, div_same}
use lib.Ieee.Order.{drop}
use lib.Ieee.Scale.{round_same}
use Rattle.rounding.proofs.Powers.{half_pow}
use Rattle.rounding.specs.Stick.{stick}
use Rattle.rounding.proofs.Sticks.{stick_same, stick_stick, closest_stick, halved}

-- ---- digits
pub size_gt : (n j : ℕ) → 2 ^ j ≤ n → j < size n
size_gt n j h = lt_of_not-le (λ (g : size n ≤ j). not-le_of_lt (lt_of_lt_of_le (size-lt n) (pow_mono g)) h)

pub size_is : (n j : ℕ) → 2 ^ j ≤ n → n < 2 ^ suc j → size n ≡ suc j
size_is n j a b = let x = size_gt n j a in let y = size-le n (suc j) b in omega arith

join : (z t x : ℕ) → 0 < z → x ≤ z + t → z - 1 + t < x → x ≡ z + t
join z t x Z a b = omega arith

pub size_scale : (n c t : ℕ) → 0 < c → 0 < size (n / c) → size (n * 2 ^ t / c) ≡ size (n / c) + t
size_scale n c t C Z =
    let z = size (n / c) in
    let lo : 2 ^ (z - 1) * c ≤ n = (le-div_iff_mul-le C).0 (size_reaches (n / c) (z - 1) (omega arith)) in
    let hi : n < 2 ^ z * c = (div-lt_iff_lt-mul C).0 (size-lt (n / c)) in
    let lo-is : 2 ^ (z - 1 + t) * c ≡ 2 ^ (z - 1) * c * 2 ^ t = ap (λ (x : ℕ). x * c) (pow-add 2 (z - 1) t) ∙ mul_right_comm (2 ^ (z - 1)) (2 ^ t) c in
    let hi-is : 2 ^ z * c * 2 ^ t ≡ 2 ^ (z + t) * c = mul_right_comm (2 ^ z) c (2 ^ t) ∙ ap (λ (x : ℕ). x * c) (sym (pow-add 2 z t)) in
    let lo' : 2 ^ (z - 1 + t) * c ≤ n * 2 ^ t = le_trans (le_of_eq lo-is) (mul-le-mul_right (2 ^ t) lo) in
    let hi' : n * 2 ^ t < 2 ^ (z + t) * c = lt_of_lt_of_le (mul-lt-mul_of_pos_right hi (pow_pos t)) (le_of_eq hi-is) in
    join z t (size (n * 2 ^ t / c)) Z (size-le (n * 2 ^ t / c) (z + t) ((div-lt_iff_lt-mul C).1 hi')) (size_gt (n * 2 ^ t / c) (z - 1 + t) ((le-div_iff_mul-le C).1 lo'))

-- ---- A grid of steps of c / den, which is 2 ^ b / 2 ^ a. On it `stick num c` is num / den, in half steps.
-- with as many digits dropped, the same number is kept
step_is : (l i a b k c den : ℕ) → suc l + i + b ≡ k + a → c * 2 ^ a ≡ den * 2 ^ b → 2 * 2 ^ l * c * 2 ^ i ≡ den * 2 ^ k
step_is l i a b k c den e h =
    eq_of_mul-eq-mul_right (2 ^ a) (pow_pos a) (2 * 2 ^ l * c * 2 ^ i) (den * 2 ^ k) (omega (arith, ap (λ (z : ℕ). 2 * 2 ^ l * 2 ^ i * z) h, ap (λ (z : ℕ). den * z) p))
  where
    p : 2 * 2 ^ l * 2 ^ i * 2 ^ b ≡ 2 ^ k * 2 ^ a
    p =
        ap (λ (x : ℕ). x * 2 ^ i * 2 ^ b) (sym (pow-succ' 2 l))
        ∙ ap (λ (x : ℕ). x * 2 ^ b) (sym (pow-add 2 (suc l) i))
        ∙ sym (pow-add 2 (suc l + i) b)
        ∙ ap (λ (x : ℕ). 2 ^ x) e
        ∙ pow-add 2 k a

cross₁ : (n d L I K c : ℕ) → 2 * L * c * I ≡ d * K → 2 * (n * L) * (c * I) ≡ n * (d * K)
cross₁ n d L I K c e = omega (arith, ap (λ (z : ℕ). n * z) e)

cross₂ : (y d L I K c : ℕ) → 2 * L * c * I ≡ d * K → 2 * (y * c * L) * (2 * I) ≡ y * (2 * d * K)
cross₂ y d L I K c e = omega (arith, ap (λ (z : ℕ). y * z) e)

module _ (num den c a b : ℕ) (D : 0 < den) (C : 0 < c) (S : c * 2 ^ a ≡ den * 2 ^ b) where
  kept_sticky : (k l i : ℕ) → suc l + i + b ≡ k + a → closest (num * 2 ^ l) (den * 2 ^ k) ≡ closest (stick num c * c * 2 ^ l) (2 * den * 2 ^ k)
  kept_sticky k l i e =
      let y = stick num c in
      let p = step_is l i a b k c den e S in
      let B : 0 < den * 2 ^ k = mul-pos D (pow_pos k) in
      let B' : 0 < 2 * den * 2 ^ k = mul-pos (mul-pos (pow_pos 1) D) (pow_pos k) in
      closest_stick (num * 2 ^ l) (den * 2 ^ k) B
      ∙ ap (λ (x : ℕ). closest x 4)
      (stick_same (2 * (num * 2 ^ l)) (den * 2 ^ k) num (c * 2 ^ i) B (mul-pos C (pow_pos i)) (cross₁ num den (2 ^ l) (2 ^ i) (2 ^ k) c p)
      ∙ stick_stick num c (2 ^ i) C (pow_pos i)
      ∙ sym (stick_same (2 * (y * c * 2 ^ l)) (2 * den * 2 ^ k) y (2 * 2 ^ i) B' (mul-pos (pow_pos 1) (pow_pos i)) (cross₂ y den (2 ^ l) (2 ^ i) (2 ^ k) c p)))
      ∙ sym (closest_stick (y * c * 2 ^ l) (2 * den * 2 ^ k) B')

  -- steps no longer than the unit
  unit_above : (l t : ℕ) → l + b + t ≡ a → c * 2 ^ t * 2 ^ l ≡ den
  unit_above l t e =
      eq_of_mul-eq-mul_right (2 ^ b) (pow_pos b) (c * 2 ^ t * 2 ^ l) den
      (omega (arith, S, ap (λ (z : ℕ). c * z) (ap (λ (x : ℕ). 2 ^ x) (sym e) ∙ pow-add 2 (l + b) t ∙ ap (λ (x : ℕ). x * 2 ^ t) (pow-add 2 l b))))

  whole_below : (l t : ℕ) → l + b + t ≡ a → num * 2 ^ l / den ≡ stick num c * c * 2 ^ l / (2 * den)
  whole_below l t e =
      let y = stick num c in
      let u = unit_above l t e in
      div_same (num * 2 ^ l) den num (c * 2 ^ t) D (mul-pos C (pow_pos t)) (omega (arith, ap (λ (z : ℕ). num * z) u))
      ∙ sym (div-div-eq-div-mul num c (2 ^ t))
      ∙ ap (λ (x : ℕ). x / 2 ^ t) (sym (halved (num / c) (num % c)))
      ∙ div-div-eq-div-mul y 2 (2 ^ t)
      ∙ div_same y (2 * 2 ^ t) (y * c * 2 ^ l) (2 * den) (mul-pos (pow_pos 1) (pow_pos t)) (mul-pos (pow_pos 1) D) (omega (arith, ap (λ (z : ℕ). y * z) u))

  -- longer steps
  unit_below : (l t : ℕ) → a + t ≡ l + b → den * 2 ^ t ≡ c * 2 ^ l
  unit_below l t e =
      eq_of_mul-eq-mul_right (2 ^ b) (pow_pos b) (den * 2 ^ t) (c * 2 ^ l)
      (omega (arith, ap (λ (z : ℕ). z * 2 ^ t) S, ap (λ (z : ℕ). c * z) (sym (pow-add 2 a t) ∙ ap (λ (x : ℕ). 2 ^ x) e ∙ pow-add 2 l b)))

  whole_above : (l t : ℕ) → a + t ≡ l + b → 0 < size (num / c)
      → (size (num * 2 ^ l / den) ≡ size (num / c) + t) × (size (stick num c * c * 2 ^ l / (2 * den)) ≡ size (num / c) + t)
  whole_above l t e Z =
      let y = stick num c in
      let h : y / 2 ≡ num / c = halved (num / c) (num % c) in
      let u = unit_below l t e in (
        ap size (div_same (num * 2 ^ l) den (num * 2 ^ t) c D C (omega (arith, ap (λ (z : ℕ). num * z) u))) ∙ size_scale num c t C Z,
        ap size (div_same (y * c * 2 ^ l) (2 * den) (y * 2 ^ t) 2 (mul-pos (pow_pos 1) D) (pow_pos 1) (omega (arith, ap (λ (z : ℕ). y * z) u)))
            ∙ size_scale y 2 t (pow_pos 1) (subst (λ (x : ℕ). 0 < size x) (sym h) Z)
            ∙ ap (λ (x : ℕ). size x + t) h,
      )

  same_drop : (p l : ℕ) → (l + b < a) ⊎ (p < size (num / c))
      → (drop p (num * 2 ^ l) den ≡ drop p (stick num c * c * 2 ^ l) (2 * den)) × (suc l + b ≤ drop p (num * 2 ^ l) den + a)
  same_drop p l F = go (ltb (l + b) a) (ltb→lt (l + b) a) (nltb→le (l + b) a)
    where
      go : (t : Bool) → (T t → l + b < a) → (T (not t) → a ≤ l + b)
          → (drop p (num * 2 ^ l) den ≡ drop p (stick num c * c * 2 ^ l) (2 * den)) × (suc l + b ≤ drop p (num * 2 ^ l) den + a)
      go true x y = let h = x tt in (ap (λ (z : ℕ). size z - p) (whole_below l (a - (l + b)) (omega arith)), omega arith)
      go false x y =
          ⊎_elim (λ (z : l + b < a). absurd (let h = y tt in omega arith)) (λ (z : p < size (num / c)).
          let h = y tt in
          let w = whole_above l (l + b - a) (omega arith) (omega arith) in
          (ap (λ (z : ℕ). z - p) (w.0 ∙ sym w.1), omega (arith, w.0))) F

-- ---- the law: steps of at most half a unit, or more of them than the format keeps digits
pub sticky : (f : Format) (s : Bool) (num den c a b : ℕ) → 0 < den → 0 < c → c * 2 ^ a ≡ den * 2 ^ b → (low f + b < a) ⊎ (prec f < size (num / c))
    → round f s num den ≡ round f s (stick num c * c) (2 * den)
sticky f s num den c a b D C S F =
    let p = prec f in
    let l = low f in
    let y = stick num c in
    let k = drop p (num * 2 ^ l) den in
    let d = same_drop num den c a b D C S p l F in
    round_is f s num den
    ∙ ap (λ (x : ℕ). units f s x k) (kept_sticky num den c a b D C S k l (k + a - (suc l + b)) (over (suc l) b (k + a) d.1))
    ∙ ap (λ (z : ℕ). units f s (closest (y * c * 2 ^ l) (2 * den * 2 ^ z)) z) d.0
    ∙ sym (round_is f s (y * c) (2 * den))
  where
    over : (x y z : ℕ) → x + y ≤ z → x + (z - (x + y)) + y ≡ z
    over x y z h = omega arith

-- ---- the law in the shape that code uses: i low digits of num are cut, of a num that keeps more than prec digits
pub jam : (f : Format) (s : Bool) (num i k D : ℕ) → 0 < i → prec f < size (num / 2 ^ i) → round f s (num * 2 ^ k) (2 ^ D) ≡ round f s (stick num (2 ^ i) * 2 ^ (i - 1 + k)) (2 ^ D)
jam f s num i k D I h =
    let c = 2 ^ i * 2 ^ k in
    let C : 0 < c = mul-pos (pow_pos i) (pow_pos k) in
    let y = stick num (2 ^ i) in
    let q : stick (num * 2 ^ k) c ≡ y = stick_same (num * 2 ^ k) c num (2 ^ i) C (pow_pos i) (omega arith) in
    let w : num * 2 ^ k / c ≡ num / 2 ^ i = div_same (num * 2 ^ k) c num (2 ^ i) C (pow_pos i) (omega arith) in
    sticky f s (num * 2 ^ k) (2 ^ D) c D (i + k) (pow_pos D) C
    (ap (λ (x : ℕ). x * 2 ^ D) (sym (pow-add 2 i k)) ∙ mul_comm (2 ^ (i + k)) (2 ^ D))
    (inr (subst (λ (x : ℕ). prec f < size x) (sym w) h))
    ∙ ap (λ (x : ℕ). round f s (x * c) (2 * 2 ^ D)) q
    ∙ round_same f s (y * c) (2 * 2 ^ D) (y * 2 ^ (i - 1 + k)) (2 ^ D) (mul-pos (pow_pos 1) (pow_pos D)) (pow_pos D)
    (omega (arith, ap (λ (x : ℕ). y * x * 2 ^ k * 2 ^ D) (half_pow i I), ap (λ (x : ℕ). y * x * 2 ^ D) (pow-add 2 (i - 1) k)))
