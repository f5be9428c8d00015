use Rattle.std.proofs.Common.{sym, ◌∙◌}
use Rattle.std.specs.Float.Ieee.{of_bits, div}
use Rattle.following.specs.Places.{station_at}
use Rattle.following.proofs.Cursors.{station_held}
use Rattle.following.proofs.pass.station.Goals as goal

pub returns-then-inside : goal.returns-then-inside
returns-then-inside c =
    let p = c.requires in
    c.inside.ensures ∙ station_held _ _ _ _ _ p.0 p.1 (sym p.2 ∙ c.if-inside.true)

pub returns-else-inside : goal.returns-else-inside
unfolding station_at of_bits div
returns-else-inside c = rw (sym c.requires.2 ∙ c.if-inside.false)
