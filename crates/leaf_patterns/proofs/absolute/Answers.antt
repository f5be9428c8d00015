use Rattle.leaf_patterns.proofs.absolute.Goals as goal

pub returns : goal.returns
returns c =
    simp (
      ← c.pattern_of.ensures,
      ← c.absolute.ensures,
      ← c.double_of.ensures,
    )
