-- The station within one pair of stations: s0 and s1, their squared speeds a0 and a1, and t0, the time at s0.
use Rattle.std.specs.Prelude.{ℕ, ◌+◌, List, Float}
use Rattle.std.specs.Float.{binary64}
use Rattle.number.specs.Doubles.{quarter, ◌⊕◌, ◌⊖◌, ◌⊗◌, ◌⊘◌}
use Rattle.roots.specs.Root.{sqrt_of}
use Rattle.fused.specs.Fused.{fma_of}
use Rattle.loops.specs.Upto.{at}
use Rattle.pieces.specs.declared.pair.Piece.{Piece}

-- root a0 and c1 = (a1 - a0)/(s1 - s0)
unfoldable pub piece_of : Float → Float → Float → Float → Float → Piece
piece_of s0 s1 a0 a1 t0 = record { station = s0; time = t0; root = sqrt_of binary64 a0; c1 = (a1 ⊖ a0) ⊘ (s1 ⊖ s0) }

-- dt·fma(c1, 0.25·dt, root a0), the root given
unfoldable pub inverse2order : Float → Float → Float → Float
inverse2order root c1 dt = dt ⊗ fma_of binary64 c1 (quarter ⊗ dt) root

-- s0 + dt·fma(c1, 0.25·dt, root a0), dt = x - t0
unfoldable pub station_inside : Piece → Float → Float
station_inside p x = p.station ⊕ inverse2order p.root p.c1 (x ⊖ p.time)

-- the pair at k of a profile with its times, and the station at time x within it
unfoldable pub piece_at : List Float → List Float → List Float → ℕ → Piece
piece_at s a t k = piece_of (at s k) (at s (k + 1)) (at a k) (at a (k + 1)) (at t k)

unfoldable pub station_in : List Float → List Float → List Float → ℕ → Float → Float
station_in s a t k x = station_inside (piece_at s a t k) x
