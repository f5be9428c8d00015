use Rattle.number.proofs.ReadBack.{reads_back}
use Rattle.leaf_patterns.proofs.sqrt.Goals as goal

pub returns : goal.returns
returns c =
    let v = c.sqrt in
    let p = c.pattern_of in
    let x = c.double_of.ensures in
    (simp (← p.ensures, ← v.ensures.is, ← x), rw (reads_back v.result p.result v.type_inv p.ensures, ← x) v.ensures)
