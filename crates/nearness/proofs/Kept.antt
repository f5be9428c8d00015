-- What `round` does with a fraction of units, on whole numbers: the number that it keeps is the nearest of the numbers of p digits, and even at a tie.
use mathlib.Core.Path.{◌≡◌, refl, sym, ap, ap₂, ◌∙◌, subst}
use mathlib.Core.Logic.{◌⊎◌, inl, inr, ⊎_elim}
use Prim.Native.Nat.{ℕ, zero, suc, ◌+◌, ◌-◌, ◌*◌, ◌/◌, ◌%◌, ◌^◌, ◌≤◌, ◌<◌, compare, Ordering}
use native.Mathlib.Nat.{eq-or-lt_of_le, mul-one, one-mul, le_antisymm, mul-le-mul_left, le_of_mul-le-mul_right, pow-succ', eq-zero-or-pos, le_trans}
use native.Mathlib.Nat.{le_of_eq, le_of_lt, lt_of_lt_of_le, lt_of_le_of_lt, lt_of_not-le, not-le_of_lt, le_of_suc-le-suc, mul_assoc, mul-pos}
use native.Mathlib.Nat.{mul-le-mul_right, mul-lt-mul_of_pos_right, lt_of_mul-lt-mul_right, le-div_iff_mul-le, div-div-eq-div-mul, mod-lt, div-add-mod'}
use native.Mathlib.Omega.{arith}
use mathlib.Core.Bool.{Bool, true, false, not}
use lib.Dec.{T, ltb, ltb→lt, nltb→le, lit<}
use lib.Pow.{pow-add, pow_pos, pow_mono, ones_lt}
use lib.Ieee.{size, nearest}
use lib.Ieee.Digits.{size_reaches}
use lib.Ieee.Fits.{nearest-le, kept-lt}
use lib.Ieee.Nearest.{closest, nearest-ge}
use lib.Ieee.Order.{drop, kept}
use Rattle.rounding.proofs.Compare.{Cmp, cmp}
use Rattle.rounding.proofs.Powers.{half_pow}

-- ---- the nearest whole number to a / b is at most a half away, and even where it is just a half
pub record Close (a b q : ℕ) : Type 0 where
  pub below : 2 * q * b ≤ 2 * a + b
  pub above : 2 * a ≤ (2 * q + 1) * b
  pub tie_below : 2 * q * b ≡ 2 * a + b → q % 2 ≡ 0
  pub tie_above : 2 * a ≡ (2 * q + 1) * b → q % 2 ≡ 0

pub close : (a b : ℕ) → 0 < b → Close a b (closest a b)
close a b B = go (a / b) (a % b) (mod-lt a B) (div-add-mod' a b) (compare (a % b * 2) b) (cmp (a % b * 2) b)
  where
    at_half : (w r v : ℕ) → w % 2 ≡ v → v < 2 → w * b + r ≡ a → r * 2 ≡ b → Close a b (w + v)
    at_half w r zero o l e x = record { below = omega arith; above = omega arith; tie_below = λ t. omega arith; tie_above = λ t. omega arith }
    at_half w r (suc zero) o l e x = record { below = omega arith; above = omega arith; tie_below = λ t. omega arith; tie_above = λ t. omega arith }
    at_half w r (suc (suc v)) o l e x = absurd (omega arith)

    go : (w r : ℕ) → r < b → w * b + r ≡ a → (o : Ordering) → Cmp o (r * 2) b → Close a b (nearest w o)
    go w r R e Ordering.lt x = record { below = omega arith; above = omega arith; tie_below = λ t. absurd (omega arith); tie_above = λ t. absurd (omega arith) }
    go w r R e Ordering.eq x = at_half w r (w % 2) refl (omega arith) e x
    go w r R e Ordering.gt x = record { below = omega arith; above = omega arith; tie_below = λ t. absurd (omega arith); tie_above = λ t. absurd (omega arith) }

-- ---- the numbers of p digits, in units
abbrev pub Held : ℕ → ℕ → Type 0
Held p d = (q : ℕ) × (j : ℕ) × (q < 2 ^ p) × (d ≡ q * 2 ^ j)

-- one of 2 ^ (p - 1 + k) at least is a multiple of 2 ^ k
multiple : (p k d : ℕ) → 0 < p → 2 ^ (p - 1 + k) ≤ d → Held p d → (q : ℕ) × (d ≡ q * 2 ^ k)
multiple p k d P h x =
    let q = x.0 in
    let j = x.1 in
    let under : q * 2 ^ j < 2 ^ (p + j) = subst (λ (z : ℕ). q * 2 ^ j < z) (sym (pow-add 2 p j)) (mul-lt-mul_of_pos_right x.2 (pow_pos j)) in
    let l : 2 ^ (p - 1 + k) < 2 ^ (p + j) = lt_of_le_of_lt h (subst (λ (z : ℕ). z < 2 ^ (p + j)) (sym x.3) under) in
    let m : p - 1 + k < p + j = lt_of_not-le (λ (g : p + j ≤ p - 1 + k). not-le_of_lt l (pow_mono g)) in
    let e : j - k + k ≡ j = omega arith in
    (q * 2 ^ (j - k), x.3 ∙ ap (λ (z : ℕ). q * 2 ^ z) (sym e) ∙ ap (λ (z : ℕ). q * z) (pow-add 2 (j - k) k) ∙ sym (mul_assoc q (2 ^ (j - k)) (2 ^ k)))

-- of two multiples of u the larger is larger by u at least
step_up : (c q u : ℕ) → q * u < c * u → q * u + u ≤ c * u
step_up c q u h = le_trans (le_of_eq (omega arith)) (mul-le-mul_right {m = suc q} {n = c} u (lt_of_mul-lt-mul_right u h))

-- ---- d is one step of u or more away from q * u
over : (n den u q d : ℕ) → Close n (den * u) q → q * u + u ≤ d → (2 * n ≤ (q * u + d) * den) × (2 * n ≡ (q * u + d) * den → q % 2 ≡ 0)
over n den u q d c h =
    let a : (q * u + u) * den ≤ d * den = mul-le-mul_right den h in
    let b = c.above in
    (omega arith, λ t. c.tie_above (omega arith))

under : (n den u q d : ℕ) → Close n (den * u) q → d + u ≤ q * u → ((q * u + d) * den ≤ 2 * n) × (2 * n ≡ (q * u + d) * den → q % 2 ≡ 0)
under n den u q d c h =
    let a : (d + u) * den ≤ q * u * den = mul-le-mul_right den h in
    let b = c.below in
    (omega arith, λ t. c.tie_below (omega arith))

-- q * u is at most the fraction
under_exact : (n den q d : ℕ) → 0 < den → q * den ≤ n → d < q → ((q + d) * den ≤ 2 * n) × (2 * n ≡ (q + d) * den → ⊥)
under_exact n den q d D h l =
    let a : d * den < q * den = mul-lt-mul_of_pos_right l D in
    (omega arith, λ t. omega arith)

-- ---- what `round` does with the fraction n / den of units
module _ (p n den : ℕ) (P : 0 < p) (D : 0 < den) where
  abbrev pub result : ℕ
  result = kept p n den * 2 ^ drop p n den

  unit : Close n (den * 2 ^ drop p n den) (kept p n den)
  unit = close n (den * 2 ^ drop p n den) (mul-pos D (pow_pos (drop p n den)))

  -- where digits are dropped, the fraction has all the digits that are kept
  pub full : 0 < drop p n den → 2 ^ (p - 1 + drop p n den) * den ≤ n
  full K = (le-div_iff_mul-le D).0 (size_reaches (n / den) (p - 1 + drop p n den) (all_in_use (size (n / den)) p P K))
    where
      all_in_use : (z p : ℕ) → 0 < p → 0 < z - p → p - 1 + (z - p) < z
      all_in_use z p P h = omega arith

  pub full_kept : 0 < drop p n den → 2 ^ (p - 1) ≤ kept p n den
  full_kept K =
      let k = drop p n den in
      let few : 2 ^ (p - 1) * (den * 2 ^ k) ≤ n = le_trans (le_of_eq (omega (arith, ap (λ (z : ℕ). z * den) (pow-add 2 (p - 1) k)))) (full K) in
      le_trans ((le-div_iff_mul-le (mul-pos D (pow_pos k))).1 few) (nearest-ge (n / (den * 2 ^ k)) (compare (n % (den * 2 ^ k) * 2) (den * 2 ^ k)))

  -- with none dropped, every number is a multiple
  by_multiple : (d : ℕ) → Held p d → (drop p n den ≡ 0) ⊎ (2 ^ (p - 1 + drop p n den) ≤ d) → (q : ℕ) × (d ≡ q * 2 ^ drop p n den)
  by_multiple d x (inl e) = (d, sym (ap (λ (k : ℕ). d * 2 ^ k) e ∙ mul-one d))
  by_multiple d x (inr h) = multiple p (drop p n den) d P h x

  pub nearest_above : (d : ℕ) → Held p d → result < d → (2 * n ≤ (result + d) * den) × (2 * n ≡ (result + d) * den → kept p n den % 2 ≡ 0)
  nearest_above d x h =
      let k = drop p n den in
      let u = 2 ^ k in
      let q = kept p n den in
      let big : (k ≡ 0) ⊎ (2 ^ (p - 1 + k) ≤ d) =
      ⊎_elim
      (λ (e : k ≡ 0). inl e)
      (λ (K : 0 < k). inr (le_trans (le_of_eq (pow-add 2 (p - 1) k)) (le_trans (mul-le-mul_right u (full_kept K)) (le_of_lt h))))
      (eq-zero-or-pos k) in
      let c = by_multiple d x big in
      over n den u q d unit (subst (λ (z : ℕ). q * u + u ≤ z) (sym c.1) (step_up c.0 q u (subst (λ (z : ℕ). q * u < z) c.1 h)))

  pub nearest_below : (d : ℕ) → Held p d → d < result → ((result + d) * den ≤ 2 * n) × (2 * n ≡ (result + d) * den → kept p n den % 2 ≡ 0)
  nearest_below d x h =
      let low = 2 ^ (p - 1 + drop p n den) in
      ⊎_elim
      (λ (e : drop p n den ≡ 0). multiple_below (by_multiple d x (inl e)))
      (λ (K : 0 < drop p n den). go K (ltb d low) (ltb→lt d low) (nltb→le d low))
      (eq-zero-or-pos (drop p n den))
    where
      multiple_below : (q : ℕ) × (d ≡ q * 2 ^ drop p n den) → ((result + d) * den ≤ 2 * n) × (2 * n ≡ (result + d) * den → kept p n den % 2 ≡ 0)
      multiple_below c =
          let u = 2 ^ drop p n den in
          let q = kept p n den in
          under n den u q d unit (subst (λ (z : ℕ). z + u ≤ q * u) (sym c.1) (step_up q c.0 u (subst (λ (z : ℕ). z < q * u) c.1 h)))

      at_least : 0 < drop p n den → d < 2 ^ (p - 1 + drop p n den) → (2 ^ (p - 1) ≡ kept p n den) ⊎ (2 ^ (p - 1) < kept p n den)
          → ((result + d) * den ≤ 2 * n) × (2 * n ≡ (result + d) * den → kept p n den % 2 ≡ 0)
      at_least K l (inl e) =
          let s : 2 ^ (p - 1 + drop p n den) ≡ result = pow-add 2 (p - 1) (drop p n den) ∙ ap (λ (z : ℕ). z * 2 ^ drop p n den) e in
          let r = under_exact n den result d D (subst (λ (z : ℕ). z * den ≤ n) s (full K)) h in
          (r.0, λ t. absurd (r.1 t))
      at_least K l (inr g) =
          let u = 2 ^ drop p n den in
          let q = kept p n den in
          let a : suc (2 ^ (p - 1)) * u ≤ q * u = mul-le-mul_right u g in
          let b = pow-add 2 (p - 1) (drop p n den) in
          under n den u q d unit (omega arith)

      go : 0 < drop p n den → (b : Bool) → (T b → d < 2 ^ (p - 1 + drop p n den)) → (T (not b) → 2 ^ (p - 1 + drop p n den) ≤ d)
          → ((result + d) * den ≤ 2 * n) × (2 * n ≡ (result + d) * den → kept p n den % 2 ≡ 0)
      go K true a b = at_least K (a tt) (eq-or-lt_of_le (full_kept K))
      go K false a b = multiple_below (by_multiple d x (inr (b tt)))

-- ---- the overflow: from the point half way between the largest number M = (2 ^ p - 1) * 2 ^ K and O = 2 ^ p * 2 ^ K on, the result is O at least
odd_top : (p : ℕ) → 0 < p → (2 ^ p - 1) % 2 ≡ 1
odd_top p P = let e = half_pow p P in let h = pow_pos (p - 1) in omega arith

-- q * 2 ^ k lies from M up to below O: then it is M
at_top : (p K q k : ℕ) → 2 ≤ p → q ≤ 2 ^ p → (0 < k → 2 ^ (p - 1) ≤ q)
    → (2 ^ p - 1) * 2 ^ K ≤ q * 2 ^ k → q * 2 ^ k < 2 ^ p * 2 ^ K → (q * 2 ^ k ≡ (2 ^ p - 1) * 2 ^ K) × (q % 2 ≡ 1)
at_top p K q k P Q F lo hi = go (compare k K) (cmp k K)
  where
    split : (a b : ℕ) → a < b → 2 ^ b ≡ 2 * 2 ^ (b - suc a) * 2 ^ a
    split a b h = ap (λ (x : ℕ). 2 ^ x) (eq a b h) ∙ pow-add 2 (suc (b - suc a)) a ∙ ap (λ (x : ℕ). x * 2 ^ a) (pow-succ' 2 (b - suc a))
      where
        eq : (a b : ℕ) → a < b → b ≡ suc (b - suc a) + a
        eq a b h = omega arith

    go : (o : Ordering) → Cmp o k K → (q * 2 ^ k ≡ (2 ^ p - 1) * 2 ^ K) × (q % 2 ≡ 1)
    go Ordering.lt l =
        let t = 2 ^ (K - suc k) in
        let parted = mul_assoc (2 ^ p - 1) (2 * t) (2 ^ k) ∙ ap (λ (x : ℕ). (2 ^ p - 1) * x) (sym (split k K l)) in
        let a : (2 ^ p - 1) * (2 * t) ≤ q = le_of_mul-le-mul_right {k = 2 ^ k} (le_trans (le_of_eq parted) lo) (pow_pos k) in
        let b : (2 ^ p - 1) * 2 ≤ (2 ^ p - 1) * (2 * t) = mul-le-mul_left (2 ^ p - 1) (omega (arith, pow_pos (K - suc k))) in
        let c : 2 ^ 2 ≤ 2 ^ p = pow_mono P in
        absurd (omega arith)
    go Ordering.eq e =
        let s = ap (λ (x : ℕ). 2 ^ x) e in
        let a : q < 2 ^ p = lt_of_mul-lt-mul_right (2 ^ K) (subst (λ (x : ℕ). q * x < 2 ^ p * 2 ^ K) s hi) in
        let b : 2 ^ p - 1 ≤ q = le_of_mul-le-mul_right {k = 2 ^ K} (subst (λ (x : ℕ). (2 ^ p - 1) * 2 ^ K ≤ q * x) s lo) (pow_pos K) in
        let c : q ≡ 2 ^ p - 1 = omega arith in
        (ap₂ (λ (x y : ℕ). x * y) c s, ap (λ (x : ℕ). x % 2) c ∙ odd_top p (omega arith))
    go Ordering.gt g =
        let t = 2 ^ (k - suc K) in
        let a : q * (2 * t) < 2 ^ p = lt_of_mul-lt-mul_right (2 ^ K) (lt_of_le_of_lt (le_of_eq (mul_assoc q (2 * t) (2 ^ K) ∙ ap (λ (x : ℕ). q * x) (sym (split K k g)))) hi) in
        let b : q * 2 ≤ q * (2 * t) = mul-le-mul_left q (omega (arith, pow_pos (k - suc K))) in
        let c = half_pow p (omega arith) in
        let d = F (omega arith) in
        absurd (omega arith)

module _ (p K n den : ℕ) (P : 2 ≤ p) (D : 0 < den) where
  p_pos : 0 < p
  p_pos = omega arith

  pub kept_top : kept p n den ≤ 2 ^ p
  kept_top =
      let k = drop p n den in
      let u = den * 2 ^ k in
      le_trans (nearest-le (n / u) (compare (n % u * 2) u)) (subst (λ (x : ℕ). x < 2 ^ p) (div-div-eq-div-mul n den (2 ^ k)) (kept-lt p (n / den)))

  pub below_half : 2 * n < ((2 ^ p - 1) * 2 ^ K + 2 ^ p * 2 ^ K) * den → kept p n den * 2 ^ drop p n den < 2 ^ p * 2 ^ K
  below_half h = lt_of_not-le no
    where
      no : 2 ^ p * 2 ^ K ≤ kept p n den * 2 ^ drop p n den → ⊥
      no g =
          let m = (2 ^ p - 1) * 2 ^ K in
          let o = 2 ^ p * 2 ^ K in
          let a : m < o = mul-lt-mul_of_pos_right (ones_lt p) (pow_pos K) in
          let b = nearest_below p n den p_pos D m (2 ^ p - 1, K, ones_lt p, refl) (lt_of_lt_of_le a g) in
          let c : (o + m) * den ≤ (kept p n den * 2 ^ drop p n den + m) * den = mul-le-mul_right den (omega arith) in
          not-le_of_lt h (le_trans (le_of_eq (omega arith)) (le_trans c b.0))

  pub from_half : ((2 ^ p - 1) * 2 ^ K + 2 ^ p * 2 ^ K) * den ≤ 2 * n → 2 ^ p * 2 ^ K ≤ kept p n den * 2 ^ drop p n den
  from_half h = le_of_suc-le-suc (lt_of_not-le (λ (g : suc (kept p n den * 2 ^ drop p n den) ≤ 2 ^ p * 2 ^ K). no g))
    where
      add_le_cancel_right : (a b c : ℕ) → a + c ≤ b + c → a ≤ b
      add_le_cancel_right a b c h = omega arith

      no_odd : (a : ℕ) → a ≡ 0 → a ≡ 1 → ⊥
      no_odd a x y = omega arith

      no : kept p n den * 2 ^ drop p n den < 2 ^ p * 2 ^ K → ⊥
      no g =
          let q = kept p n den in
          let k = drop p n den in
          let m = (2 ^ p - 1) * 2 ^ K in
          let o = 2 ^ p * 2 ^ K in
          let one : 1 < 2 ^ p = lt_of_lt_of_le (lit< tt) (pow_mono P) in
          let x = nearest_above p n den p_pos D o (1, p + K, one, sym (pow-add 2 p K) ∙ sym (one-mul (2 ^ (p + K)))) g in
          let a : m ≤ q * 2 ^ k = add_le_cancel_right m (q * 2 ^ k) o (le_of_mul-le-mul_right {k = den} (le_trans h x.0) D) in
          let t = at_top p K q k P kept_top (full_kept p n den p_pos D) a g in
          let e : 2 * n ≡ (q * 2 ^ k + o) * den = le_antisymm x.0 (le_trans (le_of_eq (ap (λ (z : ℕ). (z + o) * den) t.0)) h) in
          no_odd (q % 2) (x.1 e) t.1
