use Rattle.std.proofs.Common.{sym}
use Rattle.byte_lists.proofs.Fronts.{length_doubles}
use Rattle.list_tests.proofs.tests.Finite.len.Goals as goal

pub returns : goal.returns
returns c = sym (length_doubles _)
