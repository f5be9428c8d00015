-- Numbers of two limbs, and how they are cut. The contracts of the private functions cite these; what is right is said by `fma_of` alone.
use Rattle.std.specs.Prelude.{ℕ, ◌+◌, ◌-◌, ◌*◌, ◌^◌, cond, nat_lt}
use Rattle.std.specs.Int.Count.{count_leading_zeros}
use Rattle.limbs.specs.declared.wide.Wide.{Wide}
use Rattle.rounding.specs.Stick.{stick}

-- the number that they stand for
abbrev pub whole : Wide → ℕ
whole n = n.hi * 2 ^ 64 + n.lo

-- what a - b takes from the limb above
abbrev pub borrowed : ℕ → ℕ → ℕ
borrowed a b = cond (nat_lt a b) 1 0

-- n / 2 ^ sh cut to a whole number, whose lowest digit is set where the cut lost something
abbrev pub cut : ℕ → ℕ → ℕ
cut n sh = stick n (2 * 2 ^ sh)

-- How many digits of a number with this high limb `narrow` cuts: the low limb, where the high one alone has more digits than a double keeps, and else all
-- that pass one limb.
abbrev pub spare : ℕ → ℕ
spare hi = cond (nat_lt hi (2 ^ 54)) (64 - count_leading_zeros 64 hi) 64
