-- One more turn of a loop that tests, counts or looks for numbers below n.
use mathlib.Core.Path.{◌≡◌, refl, sym, ap, ◌∙◌, subst}
use mathlib.Core.Bool.{Bool, true, false, cond, ◌&&◌}
use mathlib.Core.Logic.{⊎_elim}
use Prim.Native.Nat.{ℕ, zero, suc, ◌+◌, ◌<◌, ◌≤◌}
use native.Mathlib.Nat.{not-suc-le-zero, le_of_suc-le-suc, eq-or-lt_of_le}
use lib.Dec.{T}
use native.Mathlib.Numerals.{add-one}
use native.Mathlib.Omega.{arith}
use mathlib.Core.List.{List}
use lib.ListN.{length}
use lib.Ieee.{Float}
use Rattle.loops.specs.Upto.{every, count, seek, first, at}
use Rattle.loops.specs.Entries.{every_entry}

-- ---- every

pub and_false : (b : Bool) → b && false ≡ false
and_false true = refl
and_false false = refl

pub and_left : (a b : Bool) → a && b ≡ true → a ≡ true
and_left true b h = refl
and_left false b h = h

pub and_right : (a b : Bool) → a && b ≡ true → b ≡ true
and_right true b h = h
and_right false b h = absurd (subst T (sym h) tt)

pub every_at : (p : ℕ → Bool) (i n : ℕ) → every p n ≡ true → i < n → p i ≡ true
unfolding every
every_at p i zero h k = absurd (not-suc-le-zero k)
every_at p i (suc n) h k =
    ⊎_elim (λ e. rw e (and_right (every p n) (p n) h)) (λ l. every_at p i n (and_left (every p n) (p n) h) l) (eq-or-lt_of_le (le_of_suc-le-suc k))

pub every_next : (p : ℕ → Bool) (i : ℕ) → every p (i + 1) ≡ every p i && p i
unfolding every
every_next p i = rw add-one

pub every_none : (p : ℕ → Bool) → every p 0 ≡ true
unfolding every
every_none p = refl

pub entry_at : (p : Float → Bool) (x : List Float) (k : ℕ) → every_entry p x ≡ true → k < length x → p (at x k) ≡ true
unfolding every_entry
entry_at p x k h l = every_at (λ i. p (at x i)) k (length x) h l

-- ---- count

one_at_most : (b : Bool) → cond b 1 0 ≤ 1
one_at_most true = omega arith
one_at_most false = omega arith

pub count_le : (p : ℕ → Bool) (n : ℕ) → count p n ≤ n
unfolding count
count_le p zero = omega arith
count_le p (suc n) = omega (arith, count_le p n, one_at_most (p n))

-- ---- first

seek_is : (p : ℕ → Bool) (at n r : ℕ) → at ≤ r → r ≤ at + n → ((k : ℕ) → at ≤ k → k < r → p k ≡ false) → (r < at + n → p r ≡ true) → seek p at n ≡ r
unfolding seek
seek_is p at zero r l h f g = omega arith
seek_is p at (suc n) r l h f g =
    ⊎_elim (λ e. let y : p at ≡ true = rw e (g (omega arith)) in rw y e)
    (λ m. let y : p at ≡ false = f at (omega arith) m in rw y (seek_is p (suc at) n r m (omega arith) (λ k a b. f k (omega arith) b) (λ b. g (omega arith))))
    (eq-or-lt_of_le l)

-- what says which is the first
pub first_is : (p : ℕ → Bool) (n r : ℕ) → r ≤ n → ((k : ℕ) → k < r → p k ≡ false) → (r < n → p r ≡ true) → first p n ≡ r
unfolding first
first_is p n r h f g = seek_is p 0 n r (omega arith) (omega arith) (λ k a b. f k b) (λ b. g (omega arith))

seek_before : (p : ℕ → Bool) (at n k : ℕ) → at ≤ k → k < seek p at n → p k ≡ false
unfolding seek
seek_before p at zero k l h = absurd (omega arith)
seek_before p at (suc n) k l h = go (p at) refl (seek_before p (suc at) n k) h
  where
    go : (b : Bool) → p at ≡ b → (suc at ≤ k → k < seek p (suc at) n → p k ≡ false) → k < cond b at (seek p (suc at) n) → p k ≡ false
    go true e f h = absurd (omega arith)
    go false e f h = ⊎_elim (λ q. rw (← q) e) (λ q. f q h) (eq-or-lt_of_le l)

-- nothing before the first has p
pub first_before : (p : ℕ → Bool) (n k : ℕ) → k < first p n → p k ≡ false
unfolding first
first_before p n k h = seek_before p 0 n k (omega arith) h

seek_le : (p : ℕ → Bool) (at n : ℕ) → seek p at n ≤ at + n
unfolding seek
seek_le p at zero = omega arith
seek_le p at (suc n) = go (p at) (seek_le p (suc at) n)
  where
    go : (b : Bool) → seek p (suc at) n ≤ suc at + n → cond b at (seek p (suc at) n) ≤ at + suc n
    go true h = omega arith
    go false h = omega arith

pub first_le : (p : ℕ → Bool) (n : ℕ) → first p n ≤ n
unfolding first
first_le p n = omega (arith, seek_le p 0 n)

seek_has : (p : ℕ → Bool) (at n : ℕ) → seek p at n < at + n → p (seek p at n) ≡ true
unfolding seek
seek_has p at zero h = absurd (omega arith)
seek_has p at (suc n) h = go (p at) refl (seek_has p (suc at) n) h
  where
    go : (b : Bool) → p at ≡ b → (seek p (suc at) n < suc at + n → p (seek p (suc at) n) ≡ true) → cond b at (seek p (suc at) n) < at + suc n
        → p (cond b at (seek p (suc at) n)) ≡ true
    go true e f h = e
    go false e f h = f (omega arith)

-- the first has p, where there is one
pub first_has : (p : ℕ → Bool) (n : ℕ) → first p n < n → p (first p n) ≡ true
unfolding first
first_has p n h = seek_has p 0 n (omega arith)

pub count_more : (p : ℕ → Bool) (n : ℕ) → count p (n + 1) ≡ count p n + cond (p n) 1 0
unfolding count
count_more p n = rw add-one

-- a stretch that has one answer
pub count_stretch : (p : ℕ → Bool) (b : Bool) (j m : ℕ) → ((k : ℕ) → j ≤ k → k < j + m → p k ≡ b) → count p (j + m) ≡ count p j + cond b m 0
count_stretch p b j zero h =
    let e : j + 0 ≡ j = omega arith in
    ap (count p) e ∙ go b
  where
    go : (b : Bool) → count p j ≡ count p j + cond b 0 0
    go true = omega arith
    go false = omega arith
count_stretch p b j (suc m) h =
    let e : j + suc m ≡ j + m + 1 = omega arith in
    ap (count p) e ∙ count_more p (j + m) ∙ rw (h (j + m) (omega arith) (omega arith), count_stretch p b j m (λ k l g. h k l (omega arith))) (go b)
  where
    go : (b : Bool) → count p j + cond b m 0 + cond b 1 0 ≡ count p j + cond b (suc m) 0
    go true = omega arith
    go false = omega arith
