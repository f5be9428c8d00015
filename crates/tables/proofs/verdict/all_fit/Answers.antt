use Rattle.std.proofs.Common.{sym, ap, ◌∙◌, is_some}
use Rattle.tables.specs.ByBlocks.{fits_block}
use Rattle.tables.proofs.Blocks.{all_here, all_past, all_done}
use Rattle.tables.proofs.verdict.all_fit.Goals as goal

pub returns-then-is_none : goal.returns-then-is_none
returns-then-is_none c =
    let a = c.args in
    let l = c.loop-b in
    sym (all_here a.table.now l.b-index (fits_block a.tol a.x) _ c.loop-b-test.true (ap is_some (sym c.judge.ensures) ∙ c.if-is_none.ensures)) ∙ l.invariant

pub loop-b-preserved : goal.loop-b-preserved
loop-b-preserved c =
    let a = c.args in
    let l = c.loop-b in
    sym (all_past a.table.now l.b-index (fits_block a.tol a.x) _ c.loop-b-test.true (ap is_some (sym c.judge.ensures) ∙ c.if-is_none.ensures)) ∙ l.invariant

pub returns : goal.returns
returns c =
    let a = c.args in
    let l = c.loop-b in
    sym (all_done a.table.now l.b-index (fits_block a.tol a.x) c.loop-b-test.false) ∙ l.invariant
