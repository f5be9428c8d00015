use Rattle.leaf_patterns.proofs.next_down.Goals as goal

pub returns : goal.returns
returns c =
    simp (
      ← c.pattern_of.ensures,
      ← c.next_down.ensures,
      ← c.double_of.ensures,
    )
