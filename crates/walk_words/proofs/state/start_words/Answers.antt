use Rattle.std.proofs.Common.{ap, ◌∙◌}
use Rattle.walk_words.specs.Words.{words_of}
use Rattle.walk_words.proofs.state.start_words.Goals as goal

pub returns : goal.returns
returns c =
    c.words_of.ensures
    ∙ ap words_of (c.start.ensures
    ∙ rw (c.tolerances_of-tolerances.ensures, c.station_of-station.ensures, c.double_of.ensures))
