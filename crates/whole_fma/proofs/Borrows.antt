-- Order and difference of two numbers of two limbs, by the borrow of their low limbs: what the code of `less` and `minus` computes. Over limbs of any base N. Assumes nothing.
use Rattle.std.proofs.Common.{◌≡◌, ℕ, suc, ◌+◌, ◌-◌, ◌*◌, ◌%◌, ◌^◌, ◌<◌, ◌≤◌, Bool, true, false, cond, ltb, ◌⊎◌, sym, refl, ap, inl, inr, ⊎_elim, lt_of_lt_of_le, le_of_suc-le-suc, le-add_right, lt_of_le_of_lt, mul-le-mul_right, lt-suc_self, lt_of_mul-lt-mul_right, lt_of_not-le, arith, ltb-false, ltb-true, le-ltb, lt-ltb}
use Rattle.whole_fma.specs.TwoLimbs.{borrowed}

-- ---- a limb above
pub high_lt : (a b c N : ℕ) → a * N + b < c * N → a < c
high_lt a b c N h = lt_of_mul-lt-mul_right N (lt_of_le_of_lt (le-add_right (a * N) b) h)

pub high_in : (a b c N : ℕ) → a < c → b < N → a * N + b < c * N
high_in a b c N h l = let m : suc a * N ≤ c * N = mul-le-mul_right N h in omega arith

-- ---- by what is borrowed
by_borrow : (a b w : ℕ) → w ≡ borrowed a b → ((a < b) × (w ≡ 1)) ⊎ ((b ≤ a) × (w ≡ 0))
by_borrow a b w e = go (ltb a b) (ltb-true a b) (ltb-false a b) e
  where
    go : (t : Bool) → (t ≡ true → a < b) → (t ≡ false → b ≤ a) → w ≡ cond t 1 0 → ((a < b) × (w ≡ 1)) ⊎ ((b ≤ a) × (w ≡ 0))
    go true p q h = inl (p refl, h)
    go false p q h = inr (q refl, h)

module _ (ah al bh bl w N : ℕ) (A : al < N) (B : bl < N) (e : w ≡ borrowed al bl) where
  pub borrow_small : w ≤ 1
  borrow_small = ⊎_elim (λ (o : (al < bl) × (w ≡ 1)). omega (arith, o.1)) (λ (o : (bl ≤ al) × (w ≡ 0)). omega (arith, o.1)) (by_borrow al bl w e)

  -- ---- `less`
  less_too : ah < bh + w → ah * N + al < bh * N + bl
  less_too h = ⊎_elim
      (λ (o : (al < bl) × (w ≡ 1)). let l : ah ≤ bh = omega (arith, o.1) in let m : ah * N ≤ bh * N = mul-le-mul_right N l in omega (arith, o.0))
      (λ (o : (bl ≤ al) × (w ≡ 0)). lt_of_lt_of_le (high_in ah al bh N (omega (arith, o.1)) A) (le-add_right (bh * N) bl))
      (by_borrow al bl w e)

  not_less_too : bh + w ≤ ah → bh * N + bl ≤ ah * N + al
  not_less_too h = ⊎_elim
      (λ (o : (al < bl) × (w ≡ 1)). let m = high_in bh bl ah N (omega (arith, o.1)) B in omega arith)
      (λ (o : (bl ≤ al) × (w ≡ 0)). let l : bh ≤ ah = omega (arith, o.1) in let m : bh * N ≤ ah * N = mul-le-mul_right N l in omega (arith, o.0))
      (by_borrow al bl w e)

  pub less_is : ltb ah (bh + w) ≡ ltb (ah * N + al) (bh * N + bl)
  less_is = go (ltb ah (bh + w)) (ltb-true ah (bh + w)) (ltb-false ah (bh + w))
    where
      go : (t : Bool) → (t ≡ true → ah < bh + w) → (t ≡ false → bh + w ≤ ah) → t ≡ ltb (ah * N + al) (bh * N + bl)
      go true p q = sym (lt-ltb (ah * N + al) (bh * N + bl) (less_too (p refl)))
      go false p q = sym (le-ltb (ah * N + al) (bh * N + bl) (not_less_too (q refl)))

  -- ---- `minus`
  pub minus_high : bh * N + bl ≤ ah * N + al → bh + w ≤ ah
  minus_high h = ⊎_elim
      (λ (o : (al < bl) × (w ≡ 1)).
      let no_more : ah ≤ bh → ⊥ = λ g. let m : ah * N ≤ bh * N = mul-le-mul_right N g in omega (arith, o.0) in
      let l : bh < ah = lt_of_not-le no_more in
      omega (arith, o.1))
      (λ (o : (bl ≤ al) × (w ≡ 0)).
      let l : bh ≤ ah = le_of_suc-le-suc (lt_of_mul-lt-mul_right N (lt_of_le_of_lt (le-add_right (bh * N) bl) (lt_of_le_of_lt h (high_in ah al (suc ah) N (lt-suc_self ah) A)))) in
      omega (arith, o.1))
      (by_borrow al bl w e)

  pub minus_is : (r : ℕ) → bh + w ≤ ah → r + bl ≡ al + w * N → (ah - (bh + w)) * N + r + (bh * N + bl) ≡ ah * N + al
  minus_is r l k = let d : ah ≡ ah - (bh + w) + (bh + w) = omega arith in omega (arith, ap (λ (z : ℕ). z * N) d)

-- the low limb, in 64 bits
pub minus_low : (r al bl w : ℕ) → r < 2 ^ 64 → al < 2 ^ 64 → bl < 2 ^ 64 → (r + bl) % 2 ^ 64 ≡ al → w ≡ borrowed al bl → r + bl ≡ al + w * 2 ^ 64
minus_low r al bl w R A B e h = ⊎_elim (λ (o : (al < bl) × (w ≡ 1)). omega (arith, o.0, o.1)) (λ (o : (bl ≤ al) × (w ≡ 0)). omega (arith, o.0, o.1)) (by_borrow al bl w h)
