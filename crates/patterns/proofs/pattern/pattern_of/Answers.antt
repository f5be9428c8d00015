use Rattle.std.proofs.Common.{sym, ◌∙◌}
use Rattle.patterns.proofs.NanWritten.{nan_written}
use Rattle.patterns.proofs.pattern.pattern_of.Goals as goal

pub returns-then-is_nan : goal.returns-then-is_nan
returns-then-is_nan c = nan_written c.args.x (sym c.is_nan.ensures.value ∙ c.if-is_nan.true)
