-- The fused multiply-add, over any format. 01: "Fused multiply-add of x, y, z: nearest to xy + z, one rounding; IEEE 754 for zeros and infinities."
use Rattle.std.specs.Prelude.{ℕ, ◌+◌, ◌-◌, ◌*◌, Bool, cond, ◌&&◌, ◌==◌, nat_lt, Float}
use Rattle.std.specs.Bool.{beq}
use Rattle.std.specs.Float.{nan, inf, fin, Format}
use Rattle.std.specs.Float.Ieee.{up, down, unlike, sum}

-- an infinite product with the sign s, and z added: infinities of both signs have no sum
unfoldable pub inf_plus : Bool → Float → Float
inf_plus s nan = nan
inf_plus s (inf u) = cond (beq s u) (inf s) nan
inf_plus s (fin u l g) = inf s

-- An infinity times a zero is a NaN. Of finite values the product is exact, over one denominator with the addend, and `sum` rounds once; a sum that is
-- exactly zero is -0 where the product and the addend are both negative, and +0 otherwise.
unfoldable pub fma_of : Format → Float → Float → Float → Float
unfolding sum inf_plus
fma_of f nan y z = nan
fma_of f (inf s) nan z = nan
fma_of f (inf s) (inf t) z = inf_plus (unlike s t) z
fma_of f (inf s) (fin t n d) z = cond (n == 0) nan (inf_plus (unlike s t) z)
fma_of f (fin s m e) nan z = nan
fma_of f (fin s m e) (inf t) z = cond (m == 0) nan (inf_plus (unlike s t) z)
fma_of f (fin s m e) (fin t n d) nan = nan
fma_of f (fin s m e) (fin t n d) (inf u) = inf u
fma_of f (fin s m e) (fin t n d) (fin u l g) = sum f (unlike s t) (m * up e * (n * up d) * down g) u (l * up g * (down e * down d)) (down e * down d * down g)

-- ---- the exact sum of ±a and ±b: its size, and its sign, with that of a zero as above
abbrev pub exact_size : Bool → ℕ → Bool → ℕ → ℕ
exact_size s a t b = cond (beq s t) (a + b) (cond (nat_lt a b) (b - a) (a - b))

abbrev pub exact_sign : Bool → ℕ → Bool → ℕ → Bool
exact_sign s a t b = cond (beq s t) s (cond (nat_lt a b) t (s && nat_lt b a))
