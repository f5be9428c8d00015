-- Heron's rounds for a root, and a root lengthened by one division: the code of floor_root.
use mathlib.Core.Path.{◌≡◌, sym, ap, ◌∙◌, subst}
use Prim.Native.Nat.{ℕ, zero, suc, ◌+◌, ◌-◌, ◌*◌, ◌/◌, ◌%◌, ◌^◌, ◌≤◌, ◌<◌, min}
use native.Mathlib.Nat.{le_trans, le_of_eq, lt_of_le_of_lt, lt-suc_self, lt_of_mul-lt-mul_right, mul-le-mul, mul-le-mul_right}
use native.Mathlib.Nat.{div-lt_iff_lt-mul, div-add-mod', mod-lt}
use native.Mathlib.Omega.{arith}
use mathlib.Core.Bool.{Bool, true, false, not}
use lib.Dec.{T, leb, leb→le, nleb→lt}
use Rattle.exact_roots.specs.CutRoot.{stick_more}
use Rattle.exact_roots.proofs.Roots.{Root, square_lt, stick_more_is}

-- ---- a round from any number above 0 gives no less than the root
squares_le : (a d : ℕ) → 2 * (a * (a + d)) ≤ a * a + (a + d) * (a + d)
squares_le a d = omega arith

squares : (a b : ℕ) → 2 * (a * b) ≤ a * a + b * b
squares a b = go (leb a b) (leb→le a b) (nleb→lt a b)
  where
    go : (t : Bool) → (T t → a ≤ b) → (T (not t) → b < a) → 2 * (a * b) ≤ a * a + b * b
    go true x y = let h = x tt in let e : b ≡ a + (b - a) = omega arith in subst (λ (z : ℕ). 2 * (a * z) ≤ a * a + z * z) (sym e) (squares_le a (b - a))
    go false x y =
        let h = y tt in
        let e : a ≡ b + (a - b) = omega arith in
        subst (λ (z : ℕ). 2 * (z * b) ≤ z * z + b * b) (sym e)
        (le_trans (le_of_eq (omega arith)) (le_trans (squares_le b (a - b)) (le_of_eq (omega arith))))

above : (n r q m : ℕ) → n < suc q * r → r + q < m + m → n < m * m
above n r q m h k =
    let a : (r + q + 1) * r ≤ (m + m) * r = mul-le-mul_right r (omega arith) in
    let b = squares m r in
    omega arith

round_above : (n r : ℕ) → 0 < r → n < ((r + n / r) / 2 + 1) * ((r + n / r) / 2 + 1)
round_above n r R = above n r (n / r) ((r + n / r) / 2 + 1) ((div-lt_iff_lt-mul R).0 (lt-suc_self (n / r))) (omega arith)

-- ---- and less than the number, where that is above the root
pub root_pos : (n r : ℕ) → n < r * r → 0 < r
root_pos n zero h = absurd (omega arith)
root_pos n (suc r) h = omega arith

pub round_below : (n r : ℕ) → n < r * r → (r + n / r) / 2 < r
round_below n r h = let a : n / r < r = (div-lt_iff_lt-mul (root_pos n r h)).1 h in omega arith

-- ---- where the rounds start, between n / 2 ^ 32 and 2 ^ 32: a round on the upper digits alone, from g
module _ (n g : ℕ) (L : 2 ^ 13 ≤ g) (G : g < 65000) (D : n / 2 ^ 32 < g * 65000) where
  abbrev upper_digits : ℕ
  upper_digits = n / 2 ^ 32

  pub quotient_fits : upper_digits / g < 65000
  quotient_fits =
      let p : 0 < g = omega arith in
      let q : upper_digits < 65000 * g = omega arith in
      (div-lt_iff_lt-mul p).1 q

  pub start_between : n < (g + upper_digits / g) * 32768 * 2 ^ 32
  start_between =
      go ((g + upper_digits / g) / 2) (round_above upper_digits g (omega arith)) (omega (arith, quotient_fits))
    where
      go : (y : ℕ) → upper_digits < (y + 1) * (y + 1) → (2 ^ 12 ≤ y) × (y < 65000) × (2 * y ≤ g + upper_digits / g) → n < (g + upper_digits / g) * 32768 * 2 ^ 32
      go y h (a, b, c) = let q : y * y ≤ 65000 * y = mul-le-mul_right y (omega arith) in omega arith

-- ---- a round from there ends no lower than the root, and below 2 ^ 32
pub round_ends : (n r s : ℕ) → n < r * 2 ^ 32 → r < 2 ^ 32 → s ≡ (r + n / r) / 2 → (n < (s + 1) * (s + 1)) × (s < 2 ^ 32)
round_ends n r s N R e =
    let p : 0 < r = omega arith in
    let q : n < 2 ^ 32 * r = omega arith in
    let l : n / r < 2 ^ 32 = (div-lt_iff_lt-mul p).1 q in
    (rw e (round_above n r p), omega arith)

-- ---- 24 digits more, of (s * s + t) * 2 ^ 48 + l
module _ (s t l : ℕ) (S : 2 ^ 30 ≤ s) (R : t ≤ 2 * s) (L : l < 2 ^ 48) where
  abbrev tail : ℕ
  tail = t * 2 ^ 24 + l / 2 ^ 24

  abbrev quot : ℕ
  quot = tail / (2 * s)

  abbrev left : ℕ
  left = tail % (2 * s)

  abbrev all : ℕ
  all = (s * s + t) * 2 ^ 48 + l

  -- what the code asks
  pub record Bounds : Type 0 where
    pub quot_le : (t * 2 ^ 24 + l / 2 ^ 24) / (2 * s) ≤ 2 ^ 25
    pub square_le : (t * 2 ^ 24 + l / 2 ^ 24) / (2 * s) * ((t * 2 ^ 24 + l / 2 ^ 24) / (2 * s)) ≤ 2 ^ 50
    pub left_lt : (t * 2 ^ 24 + l / 2 ^ 24) % (2 * s) < 2 * s

  whole : quot * (2 * s) + left ≡ tail
  whole = div-add-mod' tail (2 * s)

  pub bounds : Bounds
  bounds =
      let a = whole in
      let b : quot * (2 * s) < (2 ^ 25 + 1) * (2 * s) = omega arith in
      let c : quot < 2 ^ 25 + 1 = lt_of_mul-lt-mul_right (2 * s) b in
      let d : quot ≤ 2 ^ 25 = omega arith in
      record { quot_le = d; square_le = mul-le-mul d d; left_lt = mod-lt tail (omega arith) }

  identity : all + quot * quot ≡ (s * 2 ^ 24 + quot) * (s * 2 ^ 24 + quot) + (left * 2 ^ 24 + l % 2 ^ 24)
  identity = go quot left whole
    where
      go : (q u : ℕ) → q * (2 * s) + u ≡ t * 2 ^ 24 + l / 2 ^ 24 → (s * s + t) * 2 ^ 48 + l + q * q ≡ (s * 2 ^ 24 + q) * (s * 2 ^ 24 + q) + (u * 2 ^ 24 + l % 2 ^ 24)
      go q u e = omega arith

  -- plain numbers: N + a is r * r + b
  lower : (N r a b z : ℕ) → N + a ≡ r * r + b → 0 < r → a + 1 < 2 * r → b < a → stick_more N z ≡ 2 * r - 1
  lower N zero a b z e P A h = absurd (omega arith)
  lower N (suc r) a b z e P A h =
      let x : suc r * suc r ≡ r * r + 2 * r + 1 = omega arith in
      let y : r * r + 1 ≤ N = omega arith in
      stick_more_is N z r (omega arith, omega arith) ∙ omega arith

  upper : (N r a b z : ℕ) → N + a ≡ r * r + b → b < 2 * r → a ≤ b → stick_more N z ≡ 2 * r + min 1 (b - a + z)
  upper N r a b z e B h = stick_more_is N z r (omega arith, omega arith) ∙ ap (λ (x : ℕ). 2 * r + min 1 (x + z)) (omega arith)

  module _ (z : ℕ) where
    pub code_less : left * 2 ^ 24 + l % 2 ^ 24 < quot * quot → 2 * (s * 2 ^ 24 + quot) - 1 ≡ stick_more all z
    code_less h = let a = bounds in sym (lower all (s * 2 ^ 24 + quot) (quot * quot) (left * 2 ^ 24 + l % 2 ^ 24) z identity (omega arith) (omega arith) h)

    pub code_more : quot * quot ≤ left * 2 ^ 24 + l % 2 ^ 24 → quot * quot < left * 2 ^ 24 + l % 2 ^ 24 + z → 2 * (s * 2 ^ 24 + quot) + 1 ≡ stick_more all z
    code_more g h = let a = bounds in sym (upper all (s * 2 ^ 24 + quot) (quot * quot) (left * 2 ^ 24 + l % 2 ^ 24) z identity (omega arith) g ∙ omega arith)

    pub code_same : quot * quot ≤ left * 2 ^ 24 + l % 2 ^ 24 → left * 2 ^ 24 + l % 2 ^ 24 + z ≤ quot * quot → 2 * (s * 2 ^ 24 + quot) ≡ stick_more all z
    code_same g h = let a = bounds in sym (upper all (s * 2 ^ 24 + quot) (quot * quot) (left * 2 ^ 24 + l % 2 ^ 24) z identity (omega arith) g ∙ omega arith)

-- ---- what a root leaves, as `longer` takes it
pub root_in : (n s : ℕ) → Root n s → 2 ^ 60 ≤ n → n < 2 ^ 63 → (2 ^ 30 ≤ s) × (s < 2 ^ 32) × (n - s * s ≤ 2 * s)
root_in n s R N M =
    let a : 2 ^ 30 < s + 1 = square_lt (2 ^ 30) (s + 1) (lt_of_le_of_lt N R.1) in
    let b : s < 2 ^ 32 = square_lt s (2 ^ 32) (lt_of_le_of_lt R.0 (omega arith)) in
    let c = R.1 in
    (omega arith, b, omega arith)
