-- The laws of `stick`.
use mathlib.Core.Path.{◌≡◌, refl, sym, ap, ap₂, ◌∙◌}
use Prim.Native.Nat.{ℕ, zero, suc, ◌+◌, ◌-◌, ◌*◌, ◌/◌, ◌%◌, ◌≤◌, ◌<◌, min, compare}
use native.Mathlib.Nat.{mul_comm, mul_right_comm, add-mul, mod-lt, div-add-mod', div-div-eq-div-mul}
use native.Mathlib.Omega.{arith}
use mathlib.Core.Bool.{Bool, true, false, not}
use lib.Dec.{T, ltb, ltb→lt, nltb→le}
use lib.Arith.{mod-mul, digits_div, digits_mod}
use lib.Ieee.{nearest}
use lib.Ieee.Nearest.{closest, div_same}
use Rattle.rounding.proofs.Compare.{same_cmp}
use Rattle.rounding.specs.Stick.{stick}

-- ---- equal fractions stick alike
zero_alike : (r d t b : ℕ) → 0 < b → 0 < d → r * d ≡ t * b → min 1 r ≡ min 1 t
zero_alike zero d zero b B D e = refl
zero_alike zero d (suc t) b B D e = omega arith
zero_alike (suc r) d zero b B D e = omega arith
zero_alike (suc r) d (suc t) b B D e = omega arith

rest_same : (a b c d w : ℕ) → a / b ≡ w → c / d ≡ w → a * d ≡ c * b → a % b * d ≡ c % d * b
rest_same a b c d w e f h =
    let x : w * b * d + a % b * d ≡ a * d = sym (add-mul (w * b) (a % b) d) ∙ ap (λ (z : ℕ). z * d) (ap (λ (z : ℕ). z * b + a % b) (sym e) ∙ div-add-mod' a b) in
    let y : w * d * b + c % d * b ≡ c * b = sym (add-mul (w * d) (c % d) b) ∙ ap (λ (z : ℕ). z * b) (ap (λ (z : ℕ). z * d + c % d) (sym f) ∙ div-add-mod' c d) in
    let s : w * b * d ≡ w * d * b = mul_right_comm w b d in
    omega arith

pub stick_same : (a b c d : ℕ) → 0 < b → 0 < d → a * d ≡ c * b → stick a b ≡ stick c d
stick_same a b c d B D e =
    let q : a / b ≡ c / d = div_same a b c d B D e in
    ap₂ (λ (x y : ℕ). 2 * x + y) q (zero_alike (a % b) d (c % d) b B D (rest_same a b c d (c / d) q refl e))

-- ---- a cut of a cut
both_zero : (x b r : ℕ) → 0 < b → min 1 (x * b + r) ≡ min 1 (x * 2 + min 1 r)
both_zero zero b r B = omega arith
both_zero (suc x) b r B = omega arith

pub halved : (q e : ℕ) → (2 * q + min 1 e) / 2 ≡ q
halved q e = omega arith

parity : (q e : ℕ) → (2 * q + min 1 e) % 2 ≡ min 1 e
parity q e = omega arith

pub stick_half : (q e c : ℕ) → 0 < c → stick (2 * q + min 1 e) (2 * c) ≡ 2 * (q / c) + min 1 (q % c * 2 + min 1 e)
stick_half q e c C =
    let s = 2 * q + min 1 e in
    ap₂ (λ (x y : ℕ). 2 * x + min 1 y) (sym (div-div-eq-div-mul s 2 c) ∙ ap (λ (x : ℕ). x / c) (halved q e))
    (ap (λ (x : ℕ). s % x) (mul_comm 2 c) ∙ mod-mul s C (omega arith) ∙ ap₂ (λ (x y : ℕ). x % c * 2 + y) (halved q e) (parity q e))

pub stick_stick : (a b c : ℕ) → 0 < b → 0 < c → stick a (b * c) ≡ stick (stick a b) (2 * c)
stick_stick a b c B C =
    let q = a / b in
    let r = a % b in
    ap₂ (λ (x y : ℕ). 2 * x + min 1 y) (sym (div-div-eq-div-mul a b c)) (ap (λ (x : ℕ). a % x) (mul_comm b c) ∙ mod-mul a C B)
    ∙ ap (λ (x : ℕ). 2 * (q / c) + x) (both_zero (q % c) b r B)
    ∙ sym (stick_half q r c C)

-- ---- the nearest whole number is seen at a half and what is below it
closest_is : (q b r : ℕ) → r < b → closest (q * b + r) b ≡ nearest q (compare (r * 2) b)
closest_is q b r h = ap₂ (λ (x y : ℕ). nearest x (compare (y * 2) b)) (digits_div q h) (digits_mod q h)

pub stick_is : (q b r : ℕ) → r < b → stick (q * b + r) b ≡ 2 * q + min 1 r
stick_is q b r h = ap₂ (λ (x y : ℕ). 2 * x + min 1 y) (digits_div q h) (digits_mod q h)

pub closest_stick : (a b : ℕ) → 0 < b → closest a b ≡ closest (stick (2 * a) b) 4
closest_stick a b B = go (a / b) (a % b) (mod-lt a B) (div-add-mod' a b) (ltb (a % b * 2) b) (ltb→lt (a % b * 2) b) (nltb→le (a % b * 2) b)
  where
    go : (q r : ℕ) → r < b → q * b + r ≡ a → (t : Bool) → (T t → r * 2 < b) → (T (not t) → b ≤ r * 2) → nearest q (compare (r * 2) b) ≡ closest (stick (2 * a) b) 4
    go q r R e true l g =
        let h : r * 2 < b = l tt in
        let m = min 1 (r * 2) in
        let m2 : m * 2 < 4 = omega arith in
        let twice : 2 * a ≡ 2 * q * b + r * 2 = omega arith in
        let s : stick (2 * a) b ≡ q * 4 + m = ap (λ (x : ℕ). stick x b) twice ∙ stick_is (2 * q) b (r * 2) h ∙ omega arith in
        ap (nearest q) (same_cmp (r * 2) b (m * 2) 4 (λ x. m2) (λ x. omega arith) (λ x. omega arith))
        ∙ sym (ap (λ (x : ℕ). closest x 4) s ∙ closest_is q 4 m (omega arith))
    go q r R e false l g =
        let h : b ≤ r * 2 = g tt in
        let d = r * 2 - b in
        let m = 2 + min 1 d in
        let twice : 2 * a ≡ (2 * q + 1) * b + d = omega arith in
        let s : stick (2 * a) b ≡ q * 4 + m = ap (λ (x : ℕ). stick x b) twice ∙ stick_is (2 * q + 1) b d (omega arith) ∙ omega arith in
        ap (nearest q) (same_cmp (r * 2) b (m * 2) 4 (λ x. omega arith) (λ x. omega arith) (λ x. omega arith))
        ∙ sym (ap (λ (x : ℕ). closest x 4) s ∙ closest_is q 4 m (omega arith))
