-- What groups stand for: how the sum grows, what it stays below, and where 2^64 is.
use Rattle.std.proofs.Common.{ℕ, zero, suc, ◌+◌, ◌*◌, ◌-◌, ◌%◌, ◌^◌, ◌<◌, ◌≤◌, ◌≡◌, refl, sym, ap, ap₂, ◌∙◌, subst}
use Rattle.std.proofs.Common.{Bool, true, false, cond, ◌&&◌, ◌||◌, List, Ok, Err, ltb, leb, arith, add-one}
use Rattle.std.proofs.Math.Nat.{pow-suc, pow-le-pow_right, one-le-pow, mul-le-mul_left}
use borrow.Author.Tests.{lt-ltb, le-ltb, ltb-true, ltb-false, leb-true, leb-false}
use Rattle.groups.specs.Groups.{group_at, value_of, shortest, ended, number}
use Rattle.groups.specs.declared.Fault.TheVariants.{Faulty}

pub value_none : (l : List ℕ) (at : ℕ) → value_of l at 0 ≡ 0
unfolding value_of
value_none l at = refl

pub value_more : (l : List ℕ) (at n : ℕ) → value_of l at (n + 1) ≡ value_of l at n + 128 ^ n * (group_at l at n % 128)
unfolding value_of
value_more l at n = rw add-one

grown : (v w g : ℕ) → v < w → g < 128 → v + w * g < w * 128
grown v w g h k =
    let m : g ≤ 127 = omega arith in
    omega (arith, mul-le-mul_left w m)

small : (b : ℕ) → b % 128 < 128
small b = omega arith

pub value_below : (l : List ℕ) (at n : ℕ) → value_of l at n < 128 ^ n
unfolding value_of
value_below l at zero = omega arith
value_below l at (suc n) = rw pow-suc (grown (value_of l at n) (128 ^ n) (group_at l at n % 128) (value_below l at n) (small (group_at l at n)))

-- ---- from the high group down: v stands for the groups from k on of a number n
abbrev pub Down : List ℕ → ℕ → ℕ → ℕ → ℕ → Type 0
Down l at k v n = v * 128 ^ k + value_of l at k ≡ n

pub down_ends : (l : List ℕ) (at k v n : ℕ) → k ≡ 0 → Down l at k v n → v ≡ n
down_ends l at k v n e h = omega (arith, value_none l at, subst (λ (i : ℕ). Down l at i v n) e h)

regrouped : (v g w u : ℕ) → (128 * v + g) * w + u ≡ v * (w * 128) + (u + w * g)
regrouped v g w u = omega arith

at_most : (v w u n : ℕ) → 1 ≤ w → v * w + u ≡ n → v ≤ n
at_most v w u n h e = omega (arith, mul-le-mul_left v h)

turned : (l : List ℕ) (at k v n : ℕ) → Down l at (k + 1) v n → Down l at k (128 * v + group_at l at k % 128) n
turned l at k v n h =
    regrouped v (group_at l at k % 128) (128 ^ k) (value_of l at k)
    ∙ ap (λ (w : ℕ). v * w + (value_of l at k + 128 ^ k * (group_at l at k % 128))) (sym (pow-suc 128 k) ∙ ap (λ (i : ℕ). 128 ^ i) (sym (add-one k)))
    ∙ ap (λ (u : ℕ). v * 128 ^ (k + 1) + u) (sym (value_more l at k))
    ∙ h

module _ (l : List ℕ) (at k v n : ℕ) (pos : 0 < k) (h : Down l at k v n) where
  pub down_turn : Down l at (k - 1) (128 * v + group_at l at (k - 1) % 128) n
  down_turn =
      let e : k ≡ k - 1 + 1 = omega arith in
      turned l at (k - 1) v n (subst (λ (i : ℕ). Down l at i v n) e h)

  pub down_fits : 128 * v + group_at l at (k - 1) % 128 ≤ n
  down_fits = at_most _ (128 ^ (k - 1)) (value_of l at (k - 1)) n (one-le-pow (k - 1) 128 (omega arith)) down_turn

-- ---- the edge: nine groups are below 2^64 whatever they are, and ten where the last is 0 or 1
pub low_bits : (b : ℕ) → b < 128 → b % 128 ≡ b
low_bits b h = omega arith

nine : (v w k : ℕ) → v < w → w ≤ 128 ^ 9 → v < 2 ^ 64
nine v w k h f = omega arith

module _ (l : List ℕ) (at k : ℕ) (last : group_at l at k < 128) where
  nine_below : k < 9 → value_of l at (k + 1) < 2 ^ 64
  nine_below h = nine (value_of l at (k + 1)) (128 ^ (k + 1)) k (value_below l at (k + 1)) (pow-le-pow_right (omega arith) {i = k + 1} {j = 9} (omega arith))

  tenth : k ≡ 9 → value_of l at (k + 1) ≡ value_of l at k + 2 ^ 63 * group_at l at k
  tenth e = value_more l at k ∙ ap₂ (λ (w g : ℕ). value_of l at k + w * g) (ap (λ (i : ℕ). 128 ^ i) e) (low_bits (group_at l at k) last)

  ten_below : k ≡ 9 → group_at l at k ≤ 1 → value_of l at (k + 1) < 2 ^ 64
  ten_below e b = omega (arith, tenth e, value_below l at k, ap (λ (i : ℕ). 128 ^ i) e)

  ten_above : k ≡ 9 → 1 < group_at l at k → 2 ^ 64 ≤ value_of l at (k + 1)
  ten_above e b = omega (arith, tenth e)

  pub edge : k ≤ 9 → ltb k 9 || leb (group_at l at k) 1 ≡ ltb (value_of l at (k + 1)) (2 ^ 64)
  edge h = go (ltb k 9) refl (leb (group_at l at k) 1) refl
    where
      go : (t : Bool) → ltb k 9 ≡ t → (u : Bool) → leb (group_at l at k) 1 ≡ u → t || u ≡ ltb (value_of l at (k + 1)) (2 ^ 64)
      go true q u r = sym (lt-ltb _ _ (nine_below (ltb-true _ _ q)))
      go false q true r =
          let a = ltb-false k 9 q in
          sym (lt-ltb _ _ (ten_below (omega arith) (leb-true _ _ r)))
      go false q false r =
          let a = ltb-false k 9 q in
          sym (le-ltb _ _ (ten_above (omega arith) (leb-false _ _ r)))

  -- the test that the code makes
  pub ended_by : k ≤ 9 → cond ((ltb k 9 || leb (group_at l at k) 1) && shortest (group_at l at k) k) (Ok (number (value_of l at (k + 1)) (at + k + 1))) (Err Faulty) ≡ ended l at k
  unfolding ended
  ended_by h = rw (edge h)
