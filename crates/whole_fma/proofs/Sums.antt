-- The exact sum of ±a and ±b, and `sum`, which rounds it: the cases, scaled and swapped operands, `fma_of` of three finite values,
-- and one operand cut to the other's window. Over any format. Assumes nothing.
use Rattle.std.proofs.Common.{◌≡◌, ℕ, suc, ◌+◌, ◌-◌, ◌*◌, ◌/◌, ◌%◌, ◌^◌, ◌<◌, ◌≤◌, min, Bool, true, false, cond, ◌&&◌, ltb, ◌⊎◌, sym, refl, ap, ◌∙◌, ap₂, inl, inr, le_trans, le_of_eq, lt_of_lt_of_le, le_of_lt, mul_comm, add-mul, add_comm, mul-lt-mul_of_pos_right, mul-pos, div-add-mod', le-div_iff_mul-le, arith, pow_pos, pow-add, le-ltb, lt-ltb}
use Prim.Native.Nat.{compare, Ordering}
use native.Mathlib.Nat.{mul-sub, pow-succ'}
use mathlib.Core.Bool.{beq, and-true, and-false}
use lib.Ieee.{Float, nan, inf, fin, Format, prec, up, down, unlike, round, sum}
use lib.Ieee.Fits.{down_pos}
use lib.Ieee.Exact.{HasValue}
use lib.Ieee.Scale.{round_same}
use Rattle.rounding.specs.Stick.{stick}
use Rattle.rounding.proofs.Compare.{Cmp, cmp}
use Rattle.rounding.proofs.StickyLaw.{jam, size_gt}
use Rattle.whole_fma.specs.MultiplyAdd.{fma_of, exact_size, exact_sign}
use Rattle.whole_fma.specs.TwoLimbs.{cut}
use Rattle.whole_fma.proofs.Cuts.{stick_add, stick_sub}

-- ---- the exact sum, by its cases
module _ (s t : Bool) (a b : ℕ) where
  -- u is the sign of the sum, and n its size
  abbrev pub Exact : Bool → ℕ → Type 0
  Exact u n = (u ≡ exact_sign s a t b) × (n ≡ exact_size s a t b)

  pub exact_like : beq s t ≡ true → Exact s (a + b)
  exact_like e = (rw e, rw e)

  pub exact_less : beq s t ≡ false → a < b → Exact t (b - a)
  exact_less e h = (rw (e, lt-ltb a b h), rw (e, lt-ltb a b h))

  pub exact_more : beq s t ≡ false → b < a → Exact s (a - b)
  exact_more e h = (rw (e, le-ltb a b (le_of_lt h), lt-ltb b a h) (sym (and-true s)), rw (e, le-ltb a b (le_of_lt h)))

  pub exact_even : beq s t ≡ false → a ≡ b → Exact false 0
  exact_even e h = (rw (e, le-ltb a b (omega arith), le-ltb b a (omega arith)) (sym (and-false s)), rw (e, le-ltb a b (omega arith)) (omega arith))

-- ---- `sum` rounds it
pub sum_is : (f : Format) (s : Bool) (a : ℕ) (t : Bool) (b c : ℕ) → sum f s a t b c ≡ round f (exact_sign s a t b) (exact_size s a t b) c
unfolding sum
sum_is f s a t b c = go (beq s t) (ltb a b)
  where
    go : (p q : Bool)
        → cond p (round f s (a + b) c) (cond q (round f t (b - a) c) (round f (s && ltb b a) (a - b) c))
        ≡ round f (cond p s (cond q t (s && ltb b a))) (cond p (a + b) (cond q (b - a) (a - b))) c
    go true q = refl
    go false true = refl
    go false false = refl

pub sum_at : (f : Format) (s : Bool) (a : ℕ) (t : Bool) (b c : ℕ) (u : Bool) (n : ℕ) → Exact s t a b u n → sum f s a t b c ≡ round f u n c
sum_at f s a t b c u n e = sum_is f s a t b c ∙ sym (ap₂ (λ (x : Bool) (y : ℕ). round f x y c) e.0 e.1)

-- ---- the operands scaled, and swapped
sub_mul : (a b c : ℕ) → (a - b) * c ≡ a * c - b * c
sub_mul a b c = mul_comm (a - b) c ∙ mul-sub c a b ∙ ap₂ (λ (x y : ℕ). x - y) (mul_comm c a) (mul_comm c b)

module _ (s t : Bool) (a b : ℕ) where
  exact_scaled : (k : ℕ) → 0 < k → Exact s t (a * k) (b * k) (exact_sign s a t b) (exact_size s a t b * k)
  exact_scaled k K = go (beq s t) refl (compare a b) (cmp a b)
    where
      to : (u : Bool) (n m : ℕ) → Exact s t a b u n → m ≡ n * k → Exact s t (a * k) (b * k) u m → Exact s t (a * k) (b * k) (exact_sign s a t b) (exact_size s a t b * k)
      to u n m e h g = (sym e.0 ∙ g.0, ap (λ (z : ℕ). z * k) (sym e.1) ∙ sym h ∙ g.1)

      go : (q : Bool) → beq s t ≡ q → (o : Ordering) → Cmp o a b → Exact s t (a * k) (b * k) (exact_sign s a t b) (exact_size s a t b * k)
      go true e o l = to s (a + b) (a * k + b * k) (exact_like s t a b e) (sym (add-mul a b k)) (exact_like s t (a * k) (b * k) e)
      go false e Ordering.lt l = to t (b - a) (b * k - a * k) (exact_less s t a b e l) (sym (sub_mul b a k)) (exact_less s t (a * k) (b * k) e (mul-lt-mul_of_pos_right l K))
      go false e Ordering.gt l = to s (a - b) (a * k - b * k) (exact_more s t a b e l) (sym (sub_mul a b k)) (exact_more s t (a * k) (b * k) e (mul-lt-mul_of_pos_right l K))
      go false e Ordering.eq l = to false 0 0 (exact_even s t a b e l) (omega arith) (exact_even s t (a * k) (b * k) e (ap (λ (z : ℕ). z * k) l))

  exact_swapped : Exact t s b a (exact_sign s a t b) (exact_size s a t b)
  exact_swapped = go (beq s t) refl (compare a b) (cmp a b)
    where
      swap : (s t : Bool) → beq t s ≡ beq s t
      swap true true = refl
      swap true false = refl
      swap false true = refl
      swap false false = refl

      same : (s t : Bool) → beq s t ≡ true → t ≡ s
      same true true e = refl
      same true false e = e
      same false true e = sym e
      same false false e = refl

      to : (u : Bool) (n : ℕ) → Exact s t a b u n → Exact t s b a u n → Exact t s b a (exact_sign s a t b) (exact_size s a t b)
      to u n e g = (sym e.0 ∙ g.0, sym e.1 ∙ g.1)

      go : (q : Bool) → beq s t ≡ q → (o : Ordering) → Cmp o a b → Exact t s b a (exact_sign s a t b) (exact_size s a t b)
      go true e o l =
          let h = exact_like t s b a (swap s t ∙ e) in
          to s (a + b) (exact_like s t a b e) (sym (same s t e) ∙ h.0, add_comm a b ∙ h.1)
      go false e Ordering.lt l = to t (b - a) (exact_less s t a b e l) (exact_more t s b a (swap s t ∙ e) l)
      go false e Ordering.gt l = to s (a - b) (exact_more s t a b e l) (exact_less t s b a (swap s t ∙ e) l)
      go false e Ordering.eq l = to false 0 (exact_even s t a b e l) (exact_even t s b a (swap s t ∙ e) (sym l))

pub sum_comm : (f : Format) (s t : Bool) (a b c : ℕ) → sum f s a t b c ≡ sum f t b s a c
sum_comm f s t a b c = sum_is f s a t b c ∙ sym (sum_at f t b s a c (exact_sign s a t b) (exact_size s a t b) (exact_swapped s t a b))

-- an exact sum times 2 ^ k
pub sum_scaled : (f : Format) (s t : Bool) (a b k D : ℕ) → round f (exact_sign s a t b) (exact_size s a t b * 2 ^ k) (2 ^ D) ≡ sum f s (a * 2 ^ k) t (b * 2 ^ k) (2 ^ D)
sum_scaled f s t a b k D = sym (sum_at f s (a * 2 ^ k) t (b * 2 ^ k) (2 ^ D) (exact_sign s a t b) (exact_size s a t b * 2 ^ k) (exact_scaled s t a b (2 ^ k) (pow_pos k)))

-- equal fractions
pub sum_same : (f : Format) (s t : Bool) (a b c a' b' c' : ℕ) → 0 < c → 0 < c' → a * c' ≡ a' * c → b * c' ≡ b' * c → sum f s a t b c ≡ sum f s a' t b' c'
sum_same f s t a b c a' b' c' C C' A B =
    let x = exact_scaled s t a b c' C' in
    let y = exact_scaled s t a' b' c C in
    let u : exact_sign s (a * c') t (b * c') ≡ exact_sign s (a' * c) t (b' * c) = ap₂ (λ (p q : ℕ). exact_sign s p t q) A B in
    let n : exact_size s (a * c') t (b * c') ≡ exact_size s (a' * c) t (b' * c) = ap₂ (λ (p q : ℕ). exact_size s p t q) A B in
    sum_is f s a t b c
    ∙ ap (λ (z : Bool). round f z (exact_size s a t b) c) (x.0 ∙ u ∙ sym y.0)
    ∙ round_same f (exact_sign s a' t b') (exact_size s a t b) c (exact_size s a' t b') c' C C' (x.1 ∙ n ∙ sym y.1)
    ∙ sym (sum_is f s a' t b' c')

-- ---- the fused multiply-add of three finite values, over one denominator
cross_product : (M N A B c e d g : ℕ) → M * c ≡ A * e → N * c ≡ B * d → M * N * g * (c * c) ≡ A * B * (e * d * g)
cross_product M N A B c e d g h k = omega (arith, ap₂ (λ (x y : ℕ). x * y * g) h k)

cross_addend : (L C c e d g : ℕ) → L * c ≡ C * g → L * (e * d) * (c * c) ≡ C * c * (e * d * g)
cross_addend L C c e d g h = omega (arith, ap (λ (x : ℕ). x * c * (e * d)) h)

pub fma_value : (f : Format) (x y z : Float) (s t u : Bool) (A B C c : ℕ) → 0 < c → HasValue x s A c → HasValue y t B c → HasValue z u C c
    → fma_of f x y z ≡ sum f (unlike s t) (A * B) u (C * c) (c * c)
unfolding fma_of
fma_value f nan y z s t u A B C c P h k l = absurd h
fma_value f (inf a) y z s t u A B C c P h k l = absurd h
fma_value f (fin a m e) nan z s t u A B C c P h k l = absurd k
fma_value f (fin a m e) (inf b) z s t u A B C c P h k l = absurd k
fma_value f (fin a m e) (fin b n d) nan s t u A B C c P h k l = absurd l
fma_value f (fin a m e) (fin b n d) (inf w) s t u A B C c P h k l = absurd l
fma_value f (fin a m e) (fin b n d) (fin w r g) s t u A B C c P h k l =
    sum_same f (unlike a b) w (m * up e * (n * up d) * down g) (r * up g * (down e * down d)) (down e * down d * down g) (A * B) (C * c) (c * c)
    (mul-pos (mul-pos (down_pos e) (down_pos d)) (down_pos g)) (mul-pos P P)
    (cross_product (m * up e) (n * up d) A B c (down e) (down d) (down g) h.1 k.1)
    (cross_addend (r * up g) C c (down e) (down d) (down g) l.1)
    ∙ ap₂ (λ (x y : Bool). sum f (unlike x y) (A * B) w (C * c) (c * c)) h.0 k.0
    ∙ ap (λ (x : Bool). sum f (unlike s t) (A * B) x (C * c) (c * c)) l.0

-- ---- a number cut, as `round` sees it: more digits are left than the format keeps
pub cut_alike : (f : Format) (s : Bool) (n k sh i D : ℕ) → i ≡ sh + k → 2 ^ prec f * (2 * 2 ^ sh) ≤ n → round f s (n * 2 ^ k) (2 ^ D) ≡ round f s (cut n sh * 2 ^ i) (2 ^ D)
cut_alike f s n k sh i D e h =
    let more : 2 ^ prec f * 2 ^ suc sh ≤ n = le_trans (le_of_eq (ap (λ (z : ℕ). 2 ^ prec f * z) (pow-succ' 2 sh))) h in
    jam f s n (suc sh) k D (omega arith) (size_gt (n / 2 ^ suc sh) (prec f) ((le-div_iff_mul-le (pow_pos (suc sh))).1 more))
    ∙ ap₂ (λ (x y : ℕ). round f s (stick n x * 2 ^ y) (2 ^ D)) (pow-succ' 2 sh) (omega arith)

-- ---- ±v * 2 ^ i ± y * 2 ^ k, with y cut to multiples of 2 ^ i: nothing is lost, or the first is far larger
exact_cut : (y p K : ℕ) → y % (2 * p) ≡ 0 → y * K ≡ stick y (2 * p) * (p * K)
exact_cut y p K e =
    let d = div-add-mod' y (2 * p) in
    let q = y / (2 * p) in
    let s : y ≡ q * (2 * p) = omega arith in
    let t : stick y (2 * p) ≡ 2 * q = ap (λ (z : ℕ). 2 * q + min 1 z) e ∙ omega arith in
    ap (λ (z : ℕ). z * K) s ∙ omega arith ∙ ap (λ (z : ℕ). z * (p * K)) (sym t)

module _ (f : Format) (s t : Bool) (v y sh k i D : ℕ) (E : v % 2 ≡ 0) (I : i ≡ sh + k) where
  power : 2 ^ i ≡ 2 ^ sh * 2 ^ k
  power = ap (λ (z : ℕ). 2 ^ z) I ∙ pow-add 2 sh k

  -- v * 2 ^ i is a multiple of c * 2 ^ k
  abbrev x : ℕ
  x = v / 2

  abbrev c : ℕ
  c = 2 * 2 ^ sh

  C : 0 < c
  C = mul-pos (pow_pos 1) (pow_pos sh)

  twice : v ≡ 2 * x
  twice = omega arith

  multiple : v * 2 ^ i ≡ x * c * 2 ^ k
  multiple = let e : v ≡ x * 2 = omega arith in ap₂ (λ (a b : ℕ). a * b) e power ∙ omega arith

  module _ (F : 2 ^ prec f * c + y ≤ x * c) where
    apart : stick (x * c - y) c + cut y sh ≡ v
    apart = stick_sub x y c C (omega arith) ∙ sym twice

    below : cut y sh < v
    below =
        let q : 2 ^ prec f ≤ (x * c - y) / c = (le-div_iff_mul-le C).1 (omega arith) in
        let p = pow_pos (prec f) in
        omega (arith, apart)

    smaller : y * 2 ^ k < v * 2 ^ i
    smaller = lt_of_lt_of_le (mul-lt-mul_of_pos_right {k = 2 ^ k} (omega (arith, mul-pos (pow_pos (prec f)) C)) (pow_pos k)) (le_of_eq (sym multiple))

    far : sum f s (v * 2 ^ i) t (y * 2 ^ k) (2 ^ D) ≡ sum f s (v * 2 ^ i) t (cut y sh * 2 ^ i) (2 ^ D)
    far = go (beq s t) refl
      where
        a : ℕ
        a = v * 2 ^ i

        b : ℕ
        b = y * 2 ^ k

        j : ℕ
        j = cut y sh

        go : (q : Bool) → beq s t ≡ q → sum f s (v * 2 ^ i) t (y * 2 ^ k) (2 ^ D) ≡ sum f s (v * 2 ^ i) t (j * 2 ^ i) (2 ^ D)
        go true e =
            sum_at f s a t b (2 ^ D) s (a + b) (exact_like s t a b e)
            ∙ ap (λ (z : ℕ). round f s z (2 ^ D)) (ap (λ (z : ℕ). z + b) multiple ∙ sym (add-mul (x * c) y (2 ^ k)))
            ∙ cut_alike f s (x * c + y) k sh i D I (omega arith)
            ∙ ap (λ (z : ℕ). round f s z (2 ^ D)) (ap (λ (z : ℕ). z * 2 ^ i) (stick_add x y c C ∙ ap (λ (z : ℕ). z + j) (sym twice)) ∙ add-mul v j (2 ^ i))
            ∙ sym (sum_at f s a t (j * 2 ^ i) (2 ^ D) s (a + j * 2 ^ i) (exact_like s t a (j * 2 ^ i) e))
        go false e =
            sum_at f s a t b (2 ^ D) s (a - b) (exact_more s t a b e smaller)
            ∙ ap (λ (z : ℕ). round f s z (2 ^ D)) (ap (λ (z : ℕ). z - b) multiple ∙ sym (sub_mul (x * c) y (2 ^ k)))
            ∙ cut_alike f s (x * c - y) k sh i D I (omega arith)
            ∙ ap (λ (z : ℕ). round f s z (2 ^ D)) (ap (λ (z : ℕ). z * 2 ^ i) (omega (arith, apart)) ∙ sub_mul v j (2 ^ i))
            ∙ sym (sum_at f s a t (j * 2 ^ i) (2 ^ D) s (a - j * 2 ^ i) (exact_more s t a (j * 2 ^ i) e (mul-lt-mul_of_pos_right below (pow_pos i))))

  pub cut_operand : (y % (2 * 2 ^ sh) ≡ 0) ⊎ (2 ^ prec f * (2 * 2 ^ sh) + y ≤ v * 2 ^ sh)
      → sum f s (v * 2 ^ i) t (y * 2 ^ k) (2 ^ D) ≡ sum f s (v * 2 ^ i) t (cut y sh * 2 ^ i) (2 ^ D)
  cut_operand (inl e) = ap (λ (z : ℕ). sum f s (v * 2 ^ i) t z (2 ^ D)) (exact_cut y (2 ^ sh) (2 ^ k) e ∙ ap (λ (z : ℕ). cut y sh * z) (sym power))
  cut_operand (inr h) = far (le_trans h (le_of_eq (let e : v ≡ x * 2 = omega arith in ap (λ (z : ℕ). z * 2 ^ sh) e ∙ omega arith)))
