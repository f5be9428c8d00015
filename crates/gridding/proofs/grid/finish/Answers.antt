use Rattle.std.proofs.Common.{sym, ◌∙◌}
use Rattle.gridding.proofs.grid.finish.Goals as goal

pub returns-then-final_added : goal.returns-then-final_added
returns-then-final_added c =
    let a = sym c.final_added.ensures ∙ c.if-final_added.true in
    let t = c.last.ensures in
    let s = c.last-station.ensures in
    record { counts = rw (← t, ← s, a) c.entry_more.ensures; left = rw (← t, ← s, a) c.put.ensures }

pub returns : goal.returns
returns c =
    let a = sym c.final_added.ensures ∙ c.if-final_added.false in
    let t = c.last.ensures in
    let s = c.last-station.ensures in
    record { counts = rw (← t, ← s, a); left = rw (← t, ← s, a) }
