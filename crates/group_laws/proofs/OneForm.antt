-- Two byte strings that read as one number are equal.
use Prim.Native.Nat.{ℕ, zero, suc, ◌+◌, ◌*◌, ◌-◌, ◌/◌, ◌%◌, ◌^◌, ◌<◌, ◌≤◌}
use mathlib.Core.Path.{◌≡◌, refl, sym, ap, subst, ◌∙◌}
use mathlib.Core.Bool.{Bool, true, false}
use mathlib.Core.List.{List, [], ◌∷◌}
use mathlib.Core.Logic.{⊎_elim}
use native.Mathlib.Omega.{arith}
use native.Mathlib.Nat.{pow-le-pow_right, eq-or-lt_of_le, le_of_suc-le-suc}
use borrow.Author.Tests.{ltb-true, ltb-false}
use lib.Arith.{digits_div, digits_mod}
use lib.Dec.{ltb}
use lib.ListN.{length, get_or}
use lib.Pow.{are_bytes}
use lib.Seq.{ext_get_or}
use Rattle.loops.proofs.Counting.{and_left, and_right}
use Rattle.groups.specs.Groups.{group_at, is_last, value_of}
use Rattle.groups.proofs.Values.{value_below}
use Rattle.group_laws.specs.GroupLaws.{ReadsAs, OneForm}
use Rattle.group_laws.proofs.Sizes.{whole, long, as_many_as_needed}

byte_below : (l : List ℕ) (i : ℕ) → are_bytes l ≡ true → get_or l i 0 < 256
byte_below [] i h = omega arith
byte_below (d ∷ ds) zero h = ltb-true d 256 (and_left (ltb d 256) (are_bytes ds) h)
byte_below (d ∷ ds) (suc i) h = byte_below ds i (and_right (ltb d 256) (are_bytes ds) h)

-- ---- the groups of one value are the same
same_high : (v w c d e : ℕ) → v < c → w < c → v + c * d ≡ w + c * e → d ≡ e
same_high v w c d e h k q =
    let r : d * c + v ≡ e * c + w = omega arith in
    sym (digits_div d h) ∙ ap (λ (n : ℕ). n / c) r ∙ digits_div e k

same_low : (v w c d e : ℕ) → v < c → w < c → v + c * d ≡ w + c * e → v ≡ w
same_low v w c d e h k q =
    let r : d * c + v ≡ e * c + w = omega arith in
    sym (digits_mod d h) ∙ ap (λ (n : ℕ). n % c) r ∙ digits_mod e k

module _ (l m : List ℕ) where
  sevens_same : (n : ℕ) → value_of l 0 n ≡ value_of m 0 n → (i : ℕ) → i < n → group_at l 0 i % 128 ≡ group_at m 0 i % 128
  unfolding value_of
  sevens_same zero e i h = absurd (omega arith)
  sevens_same (suc n) e i h =
      ⊎_elim (λ q. rw q (same_high _ _ (128 ^ n) _ _ (value_below l 0 n) (value_below m 0 n) e))
      (λ q. sevens_same n (same_low _ _ (128 ^ n) _ _ (value_below l 0 n) (value_below m 0 n) e) i q)
      (eq-or-lt_of_le (le_of_suc-le-suc h))

-- a group that others follow, and the last
same_followed : (a b : ℕ) → a < 256 → b < 256 → ltb a 128 ≡ false → ltb b 128 ≡ false → a % 128 ≡ b % 128 → a ≡ b
same_followed a b h k f g e = omega (arith, ltb-false a 128 f, ltb-false b 128 g)

same_last : (a b : ℕ) → ltb a 128 ≡ true → ltb b 128 ≡ true → a % 128 ≡ b % 128 → a ≡ b
same_last a b f g e = omega (arith, ltb-true a 128 f, ltb-true b 128 g)

-- ---- the forms of one number are as long
not_longer : (n : ℕ) (l m : List ℕ) → ReadsAs n l → ReadsAs n m → length m ≤ length l
not_longer n l m f g = go (ltb (length l) (length m)) refl
  where
    a : (length l ≤ 10) × (n < 128 ^ length l) × (1 < length l → 128 ^ (length l - 1) ≤ n)
    a = as_many_as_needed n l f

    b : (length m ≤ 10) × (n < 128 ^ length m) × (1 < length m → 128 ^ (length m - 1) ≤ n)
    b = as_many_as_needed n m g

    go : (t : Bool) → ltb (length l) (length m) ≡ t → length m ≤ length l
    go true q =
        let h = ltb-true (length l) (length m) q in
        let s = long n l f in
        let p = pow-le-pow_right {n = 128} (omega arith) {i = length l} {j = length m - 1} (omega arith) in
        absurd (omega (arith, p, a.1, b.2 (omega arith)))
    go false q = ltb-false (length l) (length m) q

module _ (n : ℕ) (l m : List ℕ) (f : ReadsAs n l) (g : ReadsAs n m) where
  as_long : length l ≡ length m
  as_long = omega (arith, not_longer n l m f g, not_longer n m l g f)

  last : ℕ
  last = (whole n l f).k

  last_is : last ≡ (whole n m g).k
  unfolding last
  last_is = omega (arith, long n l f, long n m g, as_long)

  value : value_of l 0 (last + 1) ≡ value_of m 0 (last + 1)
  unfolding last
  value = sym (whole n l f).value ∙ (whole n m g).value ∙ ap (λ (i : ℕ). value_of m 0 (i + 1)) (sym last_is)

  group_same : are_bytes l ≡ true → are_bytes m ≡ true → (i : ℕ) → i ≤ last → group_at l 0 i ≡ group_at m 0 i
  unfolding last
  group_same p q i h =
      let s = sevens_same l m (last + 1) value i (omega arith) in
      let ends : i ≡ last → group_at l 0 i ≡ group_at m 0 i = λ e.
      same_last _ _ (subst (λ (j : ℕ). is_last l 0 j ≡ true) (sym e) (whole n l f).last)
      (subst (λ (j : ℕ). is_last m 0 j ≡ true) (sym (e ∙ last_is)) (whole n m g).last) s in
      let goes_on : i < last → group_at l 0 i ≡ group_at m 0 i = λ e.
      same_followed _ _ (byte_below l (0 + i) p) (byte_below m (0 + i) q) ((whole n l f).passed i e)
      ((whole n m g).passed i (subst (λ (j : ℕ). i < j) last_is e)) s in
      ⊎_elim ends goes_on (eq-or-lt_of_le h)

  same : are_bytes l ≡ true → are_bytes m ≡ true → (i : ℕ) → i < length l → get_or l i 0 ≡ get_or m i 0
  unfolding last
  same p q i h =
      let z : 0 + i ≡ i = omega arith in
      subst (λ (j : ℕ). get_or l j 0 ≡ get_or m j 0) z (group_same p q i (omega (arith, long n l f)))

pub one_form : OneForm
one_form n l m p q f g = ext_get_or 0 l m (as_long n l m f g) (same n l m f g p q)
