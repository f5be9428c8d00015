use Rattle.std.proofs.Common.{sym}
use Rattle.walk_words.proofs.ReadBack.{left_alone}
use Rattle.walk_words.proofs.step.leave.Goals as goal

pub returns-else-is_ok : goal.returns-else-is_ok
returns-else-is_ok g c = left_alone _ c.args.answer c.args.walk c.args.words.now (sym c.if-is_ok.ensures.value)
