-- The sign of a number is told by its pattern's highest digit, in any format. Assumes nothing.
use mathlib.Core.Path.{◌≡◌, refl, ap, ◌∙◌}
use mathlib.Core.Bool.{Bool, true, false, not, cond}
use Prim.Native.Nat.{ℕ, ◌+◌, ◌*◌, ◌<◌}
use native.Mathlib.Nat.{le_of_eq, zero-add, le-add_right}
use native.Mathlib.Omega.{arith}
use borrow.Author.Tests.{le-leb, lt-leb}
use lib.Dec.{T, leb}
use lib.Ieee.{Float, nan, inf, fin, Format, fits, is_nan, hid, ones, top, to_bits}
use Rattle.number.specs.Leaves.{negative}
use Rattle.number.proofs.Patterns.{below_sign, infinite_written, pattern_of}

sign_test : (f : Format) (s : Bool) (b : ℕ) → b < top f → leb (top f) (cond s (top f) 0 + b) ≡ s
sign_test f true b l = le-leb (top f) (top f + b) (le-add_right (top f) b)
sign_test f false b l = ap (leb (top f)) (zero-add b) ∙ lt-leb (top f) b l

-- a number's sign is its pattern's highest digit
pub sign_bit : (f : Format) (x : Float) → T (fits f x) → T (not (is_nan x)) → leb (top f) (to_bits f x) ≡ negative x
unfolding is_nan negative
sign_bit f nan F h = absurd h
sign_bit f (inf s) F h = ap (leb (top f)) (infinite_written f s) ∙ sign_test f s (ones f * hid f) (below_sign f (ones f * hid f) (le_of_eq refl))
sign_bit f (fin s m e) F h = let p = pattern_of f s m e F in ap (leb (top f)) p.2 ∙ sign_test f s p.0 (below_sign f p.0 (omega (arith, p.1)))
