-- What `compare` says of two numbers, and what it is where their order is known.
use mathlib.Core.Path.{◌≡◌, refl, subst}
use Prim.Native.Nat.{ℕ, ◌≤◌, ◌<◌, compare, Ordering}
use native.Mathlib.Omega.{arith}
use mathlib.Core.Bool.{not}
use lib.Dec.{T, is_le, compare_is_eq, eqb, leb→le, nleb→lt, eqb→eq, eqb_refl}
use lib.Arith.{lt_of_le-ne}

abbrev pub Cmp : Ordering → ℕ → ℕ → Type 0
Cmp Ordering.lt a b = a < b
Cmp Ordering.eq a b = a ≡ b
Cmp Ordering.gt a b = b < a

pub cmp : (a b : ℕ) → Cmp (compare a b) a b
cmp a b = go (compare a b) (leb→le a b) (nleb→lt a b) (eqb→eq a b) (λ (e : a ≡ b). subst (λ (x : ℕ). T (eqb a x)) e (eqb_refl a))
  where
    go : (o : Ordering) → (T (is_le o) → a ≤ b) → (T (not (is_le o)) → b < a) → (T (compare_is_eq o) → a ≡ b) → (a ≡ b → T (compare_is_eq o)) → Cmp o a b
    go Ordering.lt h k e n = lt_of_le-ne (h tt) n
    go Ordering.eq h k e n = e tt
    go Ordering.gt h k e n = k tt

-- two pairs in the same order compare alike
pub same_cmp : (a b c d : ℕ) → (a < b → c < d) → (a ≡ b → c ≡ d) → (b < a → d < c) → compare a b ≡ compare c d
same_cmp a b c d l e g = go (compare a b) (compare c d) (cmp a b) (cmp c d)
  where
    go : (o p : Ordering) → Cmp o a b → Cmp p c d → o ≡ p
    go Ordering.lt Ordering.lt x y = refl
    go Ordering.eq Ordering.eq x y = refl
    go Ordering.gt Ordering.gt x y = refl
    go Ordering.lt Ordering.eq x y = absurd (let z = l x in omega arith)
    go Ordering.lt Ordering.gt x y = absurd (let z = l x in omega arith)
    go Ordering.eq Ordering.lt x y = absurd (let z = e x in omega arith)
    go Ordering.eq Ordering.gt x y = absurd (let z = e x in omega arith)
    go Ordering.gt Ordering.lt x y = absurd (let z = g x in omega arith)
    go Ordering.gt Ordering.eq x y = absurd (let z = g x in omega arith)

-- ---- from the order to what `compare` gives
pub cmp_lt : (a b : ℕ) → a < b → compare a b ≡ Ordering.lt
cmp_lt a b h = go (compare a b) (cmp a b)
  where
    go : (o : Ordering) → Cmp o a b → o ≡ Ordering.lt
    go Ordering.lt x = refl
    go Ordering.eq x = absurd (omega arith)
    go Ordering.gt x = absurd (omega arith)

pub cmp_eq : (a b : ℕ) → a ≡ b → compare a b ≡ Ordering.eq
cmp_eq a b h = go (compare a b) (cmp a b)
  where
    go : (o : Ordering) → Cmp o a b → o ≡ Ordering.eq
    go Ordering.lt x = absurd (omega arith)
    go Ordering.eq x = refl
    go Ordering.gt x = absurd (omega arith)

pub cmp_gt : (a b : ℕ) → b < a → compare a b ≡ Ordering.gt
cmp_gt a b h = go (compare a b) (cmp a b)
  where
    go : (o : Ordering) → Cmp o a b → o ≡ Ordering.gt
    go Ordering.lt x = absurd (omega arith)
    go Ordering.eq x = absurd (omega arith)
    go Ordering.gt x = refl
