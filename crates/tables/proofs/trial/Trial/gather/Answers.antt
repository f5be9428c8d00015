use Rattle.std.proofs.Common.{refl, sym, ap, ◌∙◌, ◌+◌, drop}
use Rattle.rows.specs.Rows.{fold}
use Rattle.tables.specs.ByBlocks.{gathered_block}
use Rattle.tables.specs.declared.projection.Gathered.{Gathered}
use Rattle.tables.proofs.Blocks.{fold_on, fold_done}
use Rattle.tables.proofs.Scanning.{pass_gathered}
use Rattle.tables.proofs.trial.Trial.gather.Goals as goal

pub loop-b-init : goal.loop-b-init
loop-b-init c = refl

pub loop-b-preserved : goal.loop-b-preserved
loop-b-preserved c =
    let s = c.args.self in
    let l = c.loop-b in
    let f = gathered_block s.tol in
    ap (λ (g : Gathered). fold f g (drop (l.b-index + 1) s.table.now)) c.gather_block-g.ensures
    ∙ sym (fold_on s.table.now l.b-index f l.g _ c.loop-b-test.true)
    ∙ l.invariant

pub returns : goal.returns
returns c =
    let s = c.args.self in
    let l = c.loop-b in
    sym (fold_done s.table.now l.b-index (gathered_block s.tol) l.g c.loop-b-test.false) ∙ l.invariant ∙ pass_gathered s.tol s.bounds s.table.now
