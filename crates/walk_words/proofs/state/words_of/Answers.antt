use Rattle.walk_words.proofs.state.words_of.Goals as goal

pub returns : goal.returns
returns c =
    simp (
      ← c.pattern_of.ensures,
      ← c.pattern_of-2.ensures,
      ← c.pattern_of-3.ensures,
      ← c.pattern_of-4.ensures,
      ← c.pattern_of-5.ensures,
      ← c.pattern_of-6.ensures,
      ← c.pattern_of-7.ensures,
    )
