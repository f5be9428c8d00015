-- What is known of a number that was read.
use Rattle.std.proofs.Common.{ℕ, zero, suc, ◌+◌, ◌*◌, ◌^◌, ◌<◌, ◌≤◌, min, ◌≡◌, refl, ap, subst, ◌∙◌, Bool, true, false, cond, ◌&&◌}
use Rattle.std.proofs.Common.{List, length, Result, Ok, Err, ltb, arith}
use Rattle.std.proofs.Math.Nat.{mul-le-mul_left}
use borrow.Author.Tests.{ltb-true, eqb-true, eqb-false, ne_eqb}
use Rattle.loops.specs.Upto.{first}
use Rattle.loops.proofs.Counting.{and_left, and_right, first_before, first_has}
use Rattle.groups.specs.Groups.{group_at, is_last, value_of, shortest, ended, ended_by, room_at, read_at, number}
use Rattle.groups.specs.declared.Number.{Number}
use Rattle.groups.specs.declared.Fault.{Fault}
use Rattle.groups.specs.declared.Fault.TheVariants.{Cut, Faulty}
use Rattle.groups.proofs.Values.{value_more, low_bits}

-- a number n before the place `next`, whose last group is group k
pub record Grouped (l : List ℕ) (at end n next : ℕ) : Type 0 where
  pub k : ℕ
  pub few : k ≤ 9
  pub held : at + k < min end (length l)
  pub after : next ≡ at + k + 1
  pub value : n ≡ value_of l at (k + 1)
  pub below : n < 2 ^ 64
  pub passed : (j : ℕ) → j < k → is_last l at j ≡ false
  pub last : is_last l at k ≡ true
  pub short : shortest (group_at l at k) k ≡ true

abbrev pub Known : List ℕ → ℕ → ℕ → Result Number Fault → Type 0
Known l at end (Ok n) = Grouped l at end n.value n.next
Known l at end (Err _) = Unit {0}

module _ (l : List ℕ) (at end : ℕ) where
  none_known : (t : Bool) → Known l at end (cond t (Err Cut) (Err Faulty))
  none_known true = tt
  none_known false = tt

  pub known : Known l at end (read_at l at end)
  unfolding read_at ended_by ended
  known = go (first (is_last l at) (room_at l at end)) (first_before (is_last l at) (room_at l at end)) (first_has (is_last l at) (room_at l at end))
    where
      read : (k : ℕ) → k < room_at l at end → ((j : ℕ) → j < k → is_last l at j ≡ false) → is_last l at k ≡ true
          → (t : Bool) → ltb (value_of l at (k + 1)) (2 ^ 64) && shortest (group_at l at k) k ≡ t
          → Known l at end (cond t (Ok (number (value_of l at (k + 1)) (at + k + 1))) (Err Faulty))
      read k h before has true q = record {
        k = k;
        few = omega arith;
        held = omega arith;
        after = refl;
        value = refl;
        below = ltb-true _ _ (and_left (ltb (value_of l at (k + 1)) (2 ^ 64)) (shortest (group_at l at k) k) q);
        passed = before;
        last = has;
        short = and_right (ltb (value_of l at (k + 1)) (2 ^ 64)) (shortest (group_at l at k) k) q;
      }
      read k h before has false q = tt

      met : (k : ℕ) → ((j : ℕ) → j < k → is_last l at j ≡ false) → (k < room_at l at end → is_last l at k ≡ true)
          → (t : Bool) → ltb k (room_at l at end) ≡ t → Known l at end (cond t (ended l at k) (cond (ltb (room_at l at end) 10) (Err Cut) (Err Faulty)))
      met k before has true q =
          let h = ltb-true k (room_at l at end) q in
          read k h before (has h) (ltb (value_of l at (k + 1)) (2 ^ 64) && shortest (group_at l at k) k) refl
      met k before has false q = none_known (ltb (room_at l at end) 10)

      go : (k : ℕ) → ((j : ℕ) → j < k → is_last l at j ≡ false) → (k < room_at l at end → is_last l at k ≡ true) → Known l at end (ended_by l at (room_at l at end) k)
      go k before has = met k before has (ltb k (room_at l at end)) refl

pub grouped : (l : List ℕ) (at end n next : ℕ) → read_at l at end ≡ Ok (number n next) → Grouped l at end n next
grouped l at end n next e = subst (Known l at end) e (known l at end)

-- ---- no more groups than it needs
-- a last group that is not alone is not 0
not_nought : (b k : ℕ) → shortest b k ≡ true → 0 < k → 1 ≤ b
not_nought zero k h g = absurd (eqb-false k 0 (ne_eqb k 0 (λ e. omega arith)) (eqb-true k 0 h))
not_nought (suc b) k h g = omega arith

module _ (l : List ℕ) (at end n next : ℕ) (g : Grouped l at end n next) where
  top : n ≡ value_of l at g.k + 128 ^ g.k * group_at l at g.k
  top = g.value ∙ value_more l at g.k ∙ ap (λ (b : ℕ). value_of l at g.k + 128 ^ g.k * b) (low_bits _ (ltb-true _ _ g.last))

  pub grouped_least : 0 < g.k → 128 ^ g.k ≤ n
  grouped_least h = omega (arith, top, mul-le-mul_left {m = 1} {n = group_at l at g.k} (128 ^ g.k) (not_nought _ _ g.short h))
