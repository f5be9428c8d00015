use Rattle.leaf_patterns.proofs.whole_part.Goals as goal

pub returns : goal.returns
returns c =
    simp (
      ← c.whole_part.ensures,
      ← c.double_of.ensures,
    )
