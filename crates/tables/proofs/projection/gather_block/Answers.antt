use Rattle.std.proofs.Common.{◌≡◌, ap, ◌∙◌, not, ◌||◌}
use lib.Ieee.Scale.{finite}
use Rattle.limits.specs.Projection.{flat_by}
use Rattle.tables.specs.ByBlocks.{unreachable_block, flat_block, gathered_block}
use Rattle.tables.proofs.projection.gather_block.Goals as goal
use Rattle.tables.proofs.projection.gather_block.Goals.{then-g, else-g, then-g-2, else-g-2}

pub returns : goal.returns
unfolding gathered_block
returns c =
    let a = c.args in
    let unreachable : c.if-g.result ≡ a.g.unreachable || unreachable_block a.tol a.b =
    elim c.if-g.branch [
      | then-g w ↦ rw w.if-g.true (w.result-is ∙ w.if-g.true)
      | else-g w ↦ rw w.if-g.false (w.result-is ∙ ap not (c.finite-unreachable.ensures ∙ ap finite c.reach-r.ensures))
    ] in
    let flat : c.if-g-2.result ≡ a.g.flat || flat_block a.tol a.b =
    elim c.if-g-2.branch [
      | then-g-2 w ↦ rw w.if-g-2.true (w.result-is ∙ w.if-g-2.true)
      | else-g-2 w ↦ rw w.if-g-2.false (w.result-is ∙ c.is_flat-flat.ensures ∙ ap (flat_by a.b.incline) c.reach-r.ensures)
    ] in
    rw (unreachable, flat, c.cut.ensures, c.reach-r.ensures)
