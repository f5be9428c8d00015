use lib.Ieee.{binary64}
use Rattle.number.proofs.Order.{holds}
use Rattle.picks.proofs.SignBit.{sign_bit}
use Rattle.picks.proofs.pick.negative.Goals as goal

pub returns : goal.returns
returns c = sign_bit binary64 c.args.x (holds c.well_formed.0.1) c.requires
