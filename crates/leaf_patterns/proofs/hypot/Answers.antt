use Rattle.number.proofs.ReadBack.{reads_back}
use Rattle.leaf_patterns.proofs.hypot.Goals as goal

pub returns : goal.returns
returns c =
    let v = c.hypot in
    let p = c.pattern_of in
    let y = c.double_of-2.ensures in
    let x = c.double_of.ensures in
    (simp (← p.ensures, ← v.ensures.is, ← y, ← x), rw (reads_back v.result p.result v.type_inv p.ensures, ← y, ← x) v.ensures)
