use Rattle.leaf_patterns.proofs.minimum.Goals as goal

pub returns : goal.returns
returns c =
    simp (
      ← c.pattern_of.ensures,
      ← c.minimum.ensures,
      ← c.double_of-2.ensures,
      ← c.double_of.ensures,
    )
