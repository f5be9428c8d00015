-- Each number below 2^64 has a form: its digits in base 128, with 128 added to all but the last.
use Rattle.std.proofs.Common.{ℕ, zero, suc, ◌+◌, ◌*◌, ◌/◌, ◌%◌, ◌^◌, ◌<◌, ◌≤◌, ◌≡◌, refl, sym, ap, ap₂, subst, ◌∙◌, Bool, true, false, cond, not, ◌||◌}
use Rattle.std.proofs.Common.{List, [], ◌∷◌, length, get_or, Ok, ltb, eqb, arith, add-one, zero-add}
use Rattle.std.proofs.Math.Nat.{mul_comm, pow-suc, one-le-pow, mod-eq_of_lt, le-div_iff_mul-le, div-lt_iff_lt-mul}
use borrow.Author.Tests.{lt-ltb, le-ltb, ltb-true, ltb-false, eq-eqb, ne_eqb}
use lib.Arith.{mod-mul}
use lib.Pow.{are_bytes}
use Rattle.loops.specs.Upto.{first, table}
use Rattle.loops.proofs.Counting.{first_is}
use Rattle.loops.proofs.Filling.{length_table, table_has}
use Rattle.groups.specs.Groups.{group_at, is_last, value_of, shortest, room_at, ended, ended_by, read_at, number}
use Rattle.group_laws.specs.GroupLaws.{EachHasOne}

-- a list whose entries are below 256 is one of bytes
are_bytes_lem : (l : List ℕ) → ((i : ℕ) → i < length l → get_or l i 0 < 256) → are_bytes l ≡ true
are_bytes_lem [] h = refl
are_bytes_lem (d ∷ ds) h = rw (lt-ltb d 256 (h 0 (omega arith)), are_bytes_lem ds (λ i k. h (suc i) (omega arith)))

or_true : (a b : Bool) → b ≡ true → a || b ≡ true
or_true true b h = refl
or_true false b h = h

-- ---- how many groups
record Needed (n : ℕ) : Type 0 where
  pub last : ℕ
  pub few : last ≤ 9
  pub below : n < 128 ^ (last + 1)
  pub least : 0 < last → 128 ^ last ≤ n

size : (n m : ℕ) → m ≤ 9 → n < 128 ^ (m + 1) → Needed n
size n zero h b = record { last = 0; few = h; below = b; least = λ z. absurd (omega arith) }
size n (suc m) h b = go (ltb n (128 ^ suc m)) refl (size n m (omega arith))
  where
    go : (t : Bool) → ltb n (128 ^ suc m) ≡ t → (n < 128 ^ (m + 1) → Needed n) → Needed n
    go true q smaller =
        let e : suc m ≡ m + 1 = omega arith in
        smaller (subst (λ (i : ℕ). n < 128 ^ i) e (ltb-true n (128 ^ suc m) q))
    go false q smaller = record { last = suc m; few = h; below = b; least = λ _. ltb-false n (128 ^ suc m) q }

-- ---- the groups
module _ (n : ℕ) (s : Needed n) where
  byte : ℕ → ℕ
  byte j = n / 128 ^ j % 128 + cond (ltb j s.last) 128 0

  form : List ℕ
  form = table byte (s.last + 1)

  long : length form ≡ s.last + 1
  unfolding form
  long = length_table byte (s.last + 1)

  group_is : (j : ℕ) → j ≤ s.last → group_at form 0 j ≡ byte j
  unfolding form
  group_is j h =
      let z : 0 + j ≡ j = omega arith in
      ap (λ (i : ℕ). get_or (table byte (s.last + 1)) i 0) z ∙ table_has byte (s.last + 1) j 0 (omega arith)

  followed_is : (j : ℕ) → j < s.last → byte j ≡ n / 128 ^ j % 128 + 128
  unfolding byte
  followed_is j h = rw (lt-ltb j s.last h)

  last_is : byte s.last ≡ n / 128 ^ s.last % 128
  unfolding byte
  last_is = rw (le-ltb s.last s.last (omega arith)) (omega arith)

  seven_is : (j : ℕ) → byte j % 128 ≡ n / 128 ^ j % 128
  unfolding byte
  seven_is j = go (ltb j s.last) (n / 128 ^ j)
    where
      go : (t : Bool) (d : ℕ) → (d % 128 + cond t 128 0) % 128 ≡ d % 128
      go true d = omega arith
      go false d = omega arith

  byte_below : (j : ℕ) → byte j < 256
  unfolding byte
  byte_below j = go (ltb j s.last) (n / 128 ^ j)
    where
      go : (t : Bool) (d : ℕ) → d % 128 + cond t 128 0 < 256
      go true d = omega arith
      go false d = omega arith

  -- the first j groups stand for what is left of n by 128^j
  value_is : (j : ℕ) → j ≤ s.last + 1 → value_of form 0 j ≡ n % 128 ^ j
  unfolding value_of
  value_is zero h = omega arith
  value_is (suc j) h =
      let p : 0 < 128 ^ j = one-le-pow j 128 (omega arith) in
      ap₂ (λ (v g : ℕ). v + 128 ^ j * g) (value_is j (omega arith)) (ap (λ (b : ℕ). b % 128) (group_is j (omega arith)) ∙ seven_is j)
      ∙ turned (n % 128 ^ j) (128 ^ j) (n / 128 ^ j % 128)
      ∙ sym (mod-mul n {m = 128} {c = 128 ^ j} (omega arith) p)
      ∙ ap (λ (w : ℕ). n % w) (swapped 128 (128 ^ j) ∙ sym (pow-suc 128 j))
    where
      turned : (v w d : ℕ) → v + w * d ≡ d * w + v
      turned v w d = omega arith

      swapped : (a b : ℕ) → a * b ≡ b * a
      swapped a b = omega arith

  all : value_of form 0 (s.last + 1) ≡ n
  all = value_is (s.last + 1) (omega arith) ∙ mod-eq_of_lt s.below

  -- ---- reading them
  passed : (j : ℕ) → j < s.last → is_last form 0 j ≡ false
  passed j h = le-ltb (group_at form 0 j) 128 (omega (arith, group_is j (omega arith), followed_is j h))

  last_seven : byte s.last < 128
  last_seven = omega (arith, last_is)

  met : is_last form 0 s.last ≡ true
  met = lt-ltb (group_at form 0 s.last) 128 (omega (arith, group_is s.last (omega arith), last_seven))

  -- the last is the number's highest digit, which is not 0 unless it is the only one
  highest : 0 < s.last → 1 ≤ n / 128 ^ s.last % 128
  highest h =
      let p : 0 < 128 ^ s.last = one-le-pow s.last 128 (omega arith) in
      let e : 128 ^ (s.last + 1) ≡ 128 * 128 ^ s.last = ap (λ (i : ℕ). 128 ^ i) (add-one s.last) ∙ pow-suc 128 s.last ∙ mul_comm (128 ^ s.last) 128 in
      let a : 1 ≤ n / 128 ^ s.last = (le-div_iff_mul-le {x = 1} p).1 (omega (arith, s.least h)) in
      let b : n / 128 ^ s.last < 128 = (div-lt_iff_lt-mul {y = 128} p).1 (subst (λ (w : ℕ). n < w) e s.below) in
      omega arith

  short : shortest (group_at form 0 s.last) s.last ≡ true
  short = go (ltb 0 s.last) refl
    where
      go : (t : Bool) → ltb 0 s.last ≡ t → shortest (group_at form 0 s.last) s.last ≡ true
      go true q =
          let h = highest (ltb-true 0 s.last q) in
          rw (ne_eqb (group_at form 0 s.last) 0 (λ e. omega (arith, e, group_is s.last (omega arith), last_is, h)))
      go false q = or_true (not (eqb (group_at form 0 s.last) 0)) (eqb s.last 0) (eq-eqb s.last 0 (omega (arith, ltb-false 0 s.last q)))

  room : room_at form 0 (length form) ≡ s.last + 1
  room = omega (arith, long, s.few)

  first_last : first (is_last form 0) (s.last + 1) ≡ s.last
  first_last = first_is (is_last form 0) (s.last + 1) s.last (omega arith) passed (λ _. met)

  reads : n < 2 ^ 64 → read_at form 0 (length form) ≡ Ok (number n (length form))
  unfolding read_at ended_by ended
  reads h = rw (room, first_last, lt-ltb s.last (s.last + 1) (omega arith), all, lt-ltb n (2 ^ 64) h, short, long) (ap (λ (next : ℕ). Ok (number n next)) (omega arith))

  bytes : are_bytes form ≡ true
  bytes =
      are_bytes_lem form (λ i k.
      subst (λ (j : ℕ). get_or form j 0 < 256) (zero-add i) (omega (arith, group_is i (omega (arith, long)), byte_below i)))

pub each_has_one : EachHasOne
each_has_one n h =
    let s = size n 9 (omega arith) (omega arith) in
    (form n s, bytes n s, reads n s h)
