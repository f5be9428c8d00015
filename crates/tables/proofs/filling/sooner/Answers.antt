use Rattle.std.proofs.Common.{arith}
use Rattle.refusals.proofs.Refused.{number_some}
use Rattle.tables.specs.Findings.{sooner}
use Rattle.tables.proofs.Finding.{sooner_before, sooner_after}
use Rattle.tables.proofs.filling.sooner.Goals as goal

pub returns-in-Ok : goal.returns-in-Ok
unfolding sooner
returns-in-Ok c = rw c.in-Ok.is

pub returns-in-Err : goal.returns-in-Err
returns-in-Err c = rw c.in-Err.is (sooner_before _ _ (number_some c.in-Err.d) (omega arith))

pub returns-in-Err-2 : goal.returns-in-Err-2
returns-in-Err-2 c = rw c.in-Err.is (sooner_after _ _ (omega arith) (number_some c.in-Err.d))
