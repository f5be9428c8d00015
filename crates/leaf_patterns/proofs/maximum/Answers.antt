use Rattle.leaf_patterns.proofs.maximum.Goals as goal

pub returns : goal.returns
returns c =
    simp (
      ← c.pattern_of.ensures,
      ← c.maximum.ensures,
      ← c.double_of-2.ensures,
      ← c.double_of.ensures,
    )
