-- How many groups a number takes.
use Prim.Native.Nat.{ℕ, ◌+◌, ◌-◌, ◌^◌, ◌<◌, ◌≤◌}
use mathlib.Core.Path.{◌≡◌, sym, subst}
use mathlib.Core.List.{List}
use native.Mathlib.Omega.{arith}
use lib.ListN.{length}
use Rattle.groups.proofs.Values.{value_below}
use Rattle.groups.proofs.Numbers.{Grouped, grouped, grouped_least}
use Rattle.group_laws.specs.GroupLaws.{ReadsAs, NoneAbove, AsManyAsNeeded}

pub none_above : NoneAbove
none_above l at end n next e = (grouped l at end n next e).below

module _ (n : ℕ) (l : List ℕ) (f : ReadsAs n l) where
  pub whole : Grouped l 0 (length l) n (length l)
  whole = grouped l 0 (length l) n (length l) f

  pub long : length l ≡ whole.k + 1
  long = omega (arith, whole.after)

  below : n < 128 ^ length l
  below =
      subst (λ (j : ℕ). n < 128 ^ j) (sym long)
      (subst (λ (v : ℕ). v < 128 ^ (whole.k + 1)) (sym whole.value) (value_below l 0 (whole.k + 1)))

  above : 1 < length l → 128 ^ (length l - 1) ≤ n
  above h =
      let d : whole.k ≡ length l - 1 = omega (arith, long) in
      subst (λ (j : ℕ). 128 ^ j ≤ n) d (grouped_least l 0 (length l) n (length l) whole (omega (arith, long)))

pub as_many_as_needed : AsManyAsNeeded
as_many_as_needed n l f = (omega (arith, long n l f, (whole n l f).few), below n l f, above n l f)
