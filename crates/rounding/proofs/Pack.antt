-- A rounded value's bit pattern, from the digits that are kept and how many were dropped.
use mathlib.Core.Path.{◌≡◌, refl, sym, ap, ap₂, ◌∙◌, subst}
use mathlib.Core.Logic.{◌⊎◌, inl, inr, ⊎_elim}
use Prim.Native.Nat.{ℕ, suc, ◌+◌, ◌-◌, ◌*◌, ◌/◌, ◌%◌, ◌^◌, ◌≤◌, ◌<◌, compare}
use native.Mathlib.Nat.{eq-or-lt_of_le, le_trans, le_of_eq, le_refl, not-le_of_lt, le-div_iff_mul-le, le_of_mul-le-mul_right}
use native.Mathlib.Nat.{mul_assoc, mul_left_comm, mul-one, add_assoc, mul-pos, mul-le-mul_right, mul-lt-mul_of_pos_right, pow-succ', mul-div_cancel}
use native.Mathlib.Omega.{arith}
use mathlib.Core.Bool.{Bool, true, false, not, cond}
use lib.Dec.{T, ltb, ltb→lt, nltb→le}
use lib.Pow.{pow-add, pow_pos, pow_mono, pow-lt, shr_lt}
use lib.Ieee.{Float, nan, inf, fin, Format, prec, emax, low, up, down, size, odd, units, round, hid, ones, top, to_bits, of_bits}
use lib.Ieee.Digits.{size-le}
use lib.Ieee.Fits.{round_is, round-fits, nearest-le, two, two-le_pos, down_pos}
use lib.Ieee.Exact.{HasValue, odd_sign}
use lib.Ieee.Nearest.{closest, div_same, closest_same, nearest-ge}
use lib.Ieee.Order.{drop}
use lib.Ieee.Bits.{of_bits-to_bits}
use Rattle.rounding.proofs.Powers.{half_pow, pow_le_back}
use Rattle.rounding.proofs.StickyLaw.{size_is, size_scale}

-- ---- what is written for a finite value, by its size in units
to_bits_val : (f : Format) (x : Float) (s : Bool) (a : ℕ) → HasValue x s a (2 ^ low f)
    → to_bits f x ≡ cond s (top f) 0 + ((size a - prec f) * hid f + a / 2 ^ (size a - prec f))
unfolding to_bits
to_bits_val f nan s a h = absurd h
to_bits_val f (inf t) s a h = absurd h
to_bits_val f (fin t m e) s a h =
    let n : m * up e * 2 ^ low f / down e ≡ a = ap (λ (x : ℕ). x / down e) h.1 ∙ mul-div_cancel a (down_pos e) in
    ap₂ (λ (b : Bool) (x : ℕ). cond b (top f) 0 + (size x - prec f) * hid f + x / 2 ^ (size x - prec f)) h.0 n
    ∙ add_assoc (cond s (top f) 0) ((size a - prec f) * hid f) (a / 2 ^ (size a - prec f))

-- ---- the digits that are kept, and those that are dropped
-- of q * 2 ^ d, with q of p digits
drop_of : (p q d : ℕ) → 0 < p → q < 2 ^ p → (d ≡ 0) ⊎ (2 ^ (p - 1) ≤ q) → size (q * 2 ^ d) - p ≡ d
drop_of p q d P h (inl e) =
    let x : q * 2 ^ d ≡ q = ap (λ (z : ℕ). q * 2 ^ z) e ∙ mul-one q in
    let y : size (q * 2 ^ d) ≤ p = size-le (q * 2 ^ d) p (subst (λ (z : ℕ). z < 2 ^ p) (sym x) h) in
    omega arith
drop_of p q d P h (inr g) =
    let lo : 2 ^ (p - 1 + d) ≤ q * 2 ^ d = le_trans (le_of_eq (pow-add 2 (p - 1) d)) (mul-le-mul_right (2 ^ d) g) in
    let up' : suc (p - 1 + d) ≡ p + d = omega arith in
    let under : q * 2 ^ d < 2 ^ (p + d) = subst (λ (z : ℕ). q * 2 ^ d < z) (sym (pow-add 2 p d)) (mul-lt-mul_of_pos_right h (pow_pos d)) in
    let hi : q * 2 ^ d < 2 ^ suc (p - 1 + d) = subst (λ (z : ℕ). q * 2 ^ d < 2 ^ z) (sym up') under in
    omega (arith, size_is (q * 2 ^ d) (p - 1 + d) lo hi)

digits_of : (p q d : ℕ) → 0 < p → q ≤ 2 ^ p → (d ≡ 0) ⊎ (2 ^ (p - 1) ≤ q)
    → (size (q * 2 ^ d) - p) * 2 ^ (p - 1) + q * 2 ^ d / 2 ^ (size (q * 2 ^ d) - p) ≡ d * 2 ^ (p - 1) + q
digits_of p q d P h g = ⊎_elim at_top (λ (l : q < 2 ^ p).
    ap (λ (k : ℕ). k * 2 ^ (p - 1) + q * 2 ^ d / 2 ^ k) (drop_of p q d P l g) ∙ ap (λ (x : ℕ). d * 2 ^ (p - 1) + x) (mul-div_cancel q (pow_pos d))) (eq-or-lt_of_le h)
  where
    at_top : q ≡ 2 ^ p → (size (q * 2 ^ d) - p) * 2 ^ (p - 1) + q * 2 ^ d / 2 ^ (size (q * 2 ^ d) - p) ≡ d * 2 ^ (p - 1) + q
    at_top e =
        let t : q ≡ 2 * 2 ^ (p - 1) = e ∙ half_pow p P in
        let a : q * 2 ^ d ≡ 2 ^ (p - 1) * 2 ^ suc d =
        ap (λ (x : ℕ). x * 2 ^ d) t
        ∙ mul_assoc 2 (2 ^ (p - 1)) (2 ^ d)
        ∙ mul_left_comm 2 (2 ^ (p - 1)) (2 ^ d)
        ∙ ap (λ (x : ℕ). 2 ^ (p - 1) * x) (sym (pow-succ' 2 d)) in
        let k : size (2 ^ (p - 1) * 2 ^ suc d) - p ≡ suc d = drop_of p (2 ^ (p - 1)) (suc d) P (pow-lt (omega arith)) (inr (le_refl (2 ^ (p - 1)))) in
        ap (λ (x : ℕ). (size x - p) * 2 ^ (p - 1) + x / 2 ^ (size x - p)) a
        ∙ ap (λ (z : ℕ). z * 2 ^ (p - 1) + 2 ^ (p - 1) * 2 ^ suc d / 2 ^ z) k
        ∙ ap (λ (x : ℕ). suc d * 2 ^ (p - 1) + x) (mul-div_cancel (2 ^ (p - 1)) (pow_pos (suc d)))
        ∙ omega arith

-- ---- the pattern of q * 2 ^ d units
-- only the largest q and d reach the overflow, and there the carry has made the infinity's field
carried : (p e q d : ℕ) → 2 ≤ p → q ≤ 2 ^ p → suc d < 2 * e + 1 → 2 ^ (e + p - 2 + suc e) ≤ q * 2 ^ d → (2 * e + 1) * 2 ^ (p - 1) ≡ d * 2 ^ (p - 1) + q
carried p e q d P h D g =
    let a : e + p - 2 + suc e ≤ p + d = pow_le_back (e + p - 2 + suc e) (p + d) (le_trans g (le_trans (mul-le-mul_right (2 ^ d) h) (le_of_eq (sym (pow-add 2 p d))))) in
    let dd : suc d ≡ 2 * e = omega arith in
    let pd : e + p - 2 + suc e ≡ p + d = omega arith in
    let b : 2 ^ p ≤ q = le_of_mul-le-mul_right (le_trans (le_of_eq (sym (pow-add 2 p d) ∙ ap (λ (x : ℕ). 2 ^ x) (sym pd))) g) (pow_pos d) in
    let t : 2 ^ p ≡ 2 * 2 ^ (p - 1) = half_pow p (omega arith) in
    let s : (2 * e + 1) * 2 ^ (p - 1) ≡ (d + 2) * 2 ^ (p - 1) = ap (λ (x : ℕ). x * 2 ^ (p - 1)) (omega arith) in
    omega arith

to_bits_inf : (f : Format) (s : Bool) → to_bits f (inf s) ≡ cond s (top f) 0 + ones f * hid f
unfolding to_bits
to_bits_inf f s = refl

pub pattern : (f : Format) (s : Bool) (q d : ℕ) → q ≤ 2 ^ prec f → (d ≡ 0) ⊎ (2 ^ (prec f - 1) ≤ q) → suc d < ones f
    → to_bits f (units f s q d) ≡ cond s (top f) 0 + (d * hid f + q)
unfolding units
pattern f s q d h g D = go (ltb (q * 2 ^ d) (2 ^ (low f + suc (emax f)))) (nltb→le (q * 2 ^ d) (2 ^ (low f + suc (emax f))))
  where
    go : (b : Bool) → (T (not b) → 2 ^ (low f + suc (emax f)) ≤ q * 2 ^ d)
        → to_bits f (cond b (odd (suc (prec f)) s q d (low f)) (inf s)) ≡ cond s (top f) 0 + (d * hid f + q)
    go true n =
        to_bits_val f (odd (suc (prec f)) s q d (low f)) s (q * 2 ^ d) (odd_sign (suc (prec f)) s q d (low f))
        ∙ ap (λ (x : ℕ). cond s (top f) 0 + x) (digits_of (prec f) q d (two-le_pos (prec f) (two f)) h g)
    go false n = to_bits_inf f s ∙ ap (λ (x : ℕ). cond s (top f) 0 + x) (carried (prec f) (emax f) q d (two f) h D (n tt))

pub past : (f : Format) (s : Bool) (q d : ℕ) → 2 ^ (prec f - 1) ≤ q → ones f ≤ suc d → units f s q d ≡ inf s
unfolding units
past f s q d h D = go (ltb (q * 2 ^ d) (2 ^ (low f + suc (emax f)))) (ltb→lt (q * 2 ^ d) (2 ^ (low f + suc (emax f))))
  where
    much : (p e : ℕ) → 2 ≤ p → 2 * e + 1 ≤ suc d → e + p - 2 + suc e ≤ p - 1 + d
    much p e P h = omega arith

    over : 2 ^ (low f + suc (emax f)) ≤ q * 2 ^ d
    over = le_trans (pow_mono (much (prec f) (emax f) (two f) D)) (le_trans (le_of_eq (pow-add 2 (prec f - 1) d)) (mul-le-mul_right (2 ^ d) h))

    go : (b : Bool) → (T b → q * 2 ^ d < 2 ^ (low f + suc (emax f))) → cond b (odd (suc (prec f)) s q d (low f)) (inf s) ≡ inf s
    go true n = absurd (not-le_of_lt (n tt) over)
    go false n = refl

-- ---- num / den is w * 2 ^ d / 2 ^ sh units, and w / 2 ^ sh has the digits that the format keeps
pub record Normal (f : Format) (num den w sh d : ℕ) : Type 0 where
  pub den_pos : 0 < den
  pub value : num * 2 ^ low f * 2 ^ sh ≡ w * (den * 2 ^ d)
  pub under : w < 2 ^ (prec f + sh)
  pub full : (d ≡ 0) ⊎ (2 ^ (prec f - 1 + sh) ≤ w)

drop_at : (p n den w sh d : ℕ) → 0 < p → 0 < den → n * 2 ^ sh ≡ w * (den * 2 ^ d) → w < 2 ^ (p + sh) → (d ≡ 0) ⊎ (2 ^ (p - 1 + sh) ≤ w) → drop p n den ≡ d
drop_at p n den w sh d P D e u g =
    let v : n / den ≡ w * 2 ^ d / 2 ^ sh = div_same n den (w * 2 ^ d) (2 ^ sh) D (pow_pos sh) (e ∙ omega arith) in
    let a : w / 2 ^ sh < 2 ^ p = shr_lt p sh u in
    let z : size (w / 2 ^ sh) ≤ p = size-le (w / 2 ^ sh) p a in
    ap (λ (x : ℕ). size x - p) v ∙ ⊎_elim
    (λ (o : d ≡ 0). ap (λ (x : ℕ). size (w * 2 ^ x / 2 ^ sh) - p) o ∙ ap (λ (x : ℕ). size (x / 2 ^ sh) - p) (mul-one w) ∙ (omega arith ∙ sym o))
    (λ (o : 2 ^ (p - 1 + sh) ≤ w).
    let lo : 2 ^ (p - 1) ≤ w / 2 ^ sh = (le-div_iff_mul-le (pow_pos sh)).1 (le_trans (le_of_eq (sym (pow-add 2 (p - 1) sh))) o) in
    let suc-p : suc (p - 1) ≡ p = omega arith in
    let zz : size (w / 2 ^ sh) ≡ suc (p - 1) = size_is (w / 2 ^ sh) (p - 1) lo (subst (λ (x : ℕ). w / 2 ^ sh < 2 ^ x) (sym suc-p) a) in
    let sc : size (w * 2 ^ d / 2 ^ sh) ≡ size (w / 2 ^ sh) + d = size_scale w (2 ^ sh) d (pow_pos sh) (omega arith) in
    omega arith)
    g

pub round_at : (f : Format) (s : Bool) (num den w sh d : ℕ) → Normal f num den w sh d → round f s num den ≡ units f s (closest w (2 ^ sh)) d
round_at f s num den w sh d c =
    let n = num * 2 ^ low f in
    round_is f s num den
    ∙ ap (λ (k : ℕ). units f s (closest n (den * 2 ^ k)) k) (drop_at (prec f) n den w sh d (two-le_pos (prec f) (two f)) c.den_pos c.value c.under c.full)
    ∙ ap (λ (x : ℕ). units f s x d) (closest_same n (den * 2 ^ d) w (2 ^ sh) (mul-pos c.den_pos (pow_pos d)) (pow_pos sh) c.value)

pub kept_under : (p w sh : ℕ) → w < 2 ^ (p + sh) → closest w (2 ^ sh) ≤ 2 ^ p
kept_under p w sh h = le_trans (nearest-le (w / 2 ^ sh) (compare (w % 2 ^ sh * 2) (2 ^ sh))) (shr_lt p sh h)

kept_full : (p w sh : ℕ) → 2 ^ (p + sh) ≤ w → 2 ^ p ≤ closest w (2 ^ sh)
kept_full p w sh h = le_trans ((le-div_iff_mul-le (pow_pos sh)).1 (le_trans (le_of_eq (sym (pow-add 2 p sh))) h)) (nearest-ge (w / 2 ^ sh) (compare (w % 2 ^ sh * 2) (2 ^ sh)))

pub packed : (f : Format) (s : Bool) (num den w sh d : ℕ) → Normal f num den w sh d → suc d < ones f
    → of_bits f (cond s (top f) 0 + (d * hid f + closest w (2 ^ sh))) ≡ round f s num den
packed f s num den w sh d c D =
    let v = round f s num den in
    let at = round_at f s num den w sh d c in
    let full : (d ≡ 0) ⊎ (2 ^ (prec f - 1) ≤ closest w (2 ^ sh)) =
    ⊎_elim (λ (o : d ≡ 0). inl o) (λ (o : 2 ^ (prec f - 1 + sh) ≤ w). inr (kept_full (prec f - 1) w sh o)) c.full in
    ap (λ (x : ℕ). of_bits f x) (sym (ap (λ (x : Float). to_bits f x) at ∙ pattern f s (closest w (2 ^ sh)) d (kept_under (prec f) w sh c.under) full D))
    ∙ of_bits-to_bits f v (round-fits f s num den)

pub overflowed : (f : Format) (s : Bool) (num den w sh d : ℕ) → Normal f num den w sh d → 2 ^ (prec f - 1 + sh) ≤ w → ones f ≤ suc d → round f s num den ≡ inf s
overflowed f s num den w sh d c h D = round_at f s num den w sh d c ∙ past f s (closest w (2 ^ sh)) d (kept_full (prec f - 1) w sh h) D
