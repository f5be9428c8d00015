use Rattle.std.proofs.Common.{◌≡◌, ◌-◌}
use lib.Ieee.{lt}
use Rattle.tables.specs.ByBlocks.{certificate_by}
use Rattle.search.specs.Search.{neighbours, try_neighbours}
use Rattle.search.proofs.neighbours.try_neighbours.Given as goal

abbrev pub invariant-loop-tried : goal.invariant-loop-tried
invariant-loop-tried l = let cert = certificate_by l.t in neighbours cert l.s.low (6 - l.tried) (lt l.x l.s.low) (cert l.x) l.x l.tried ≡ try_neighbours cert l.s
