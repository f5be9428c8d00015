use Rattle.std.proofs.Common.{arith}
use Rattle.rounding.proofs.Scaled.{no_nan}
use Rattle.near_roots.proofs.floats.of_pattern.Goals as goal

pub float_from_bits-x : goal.float_from_bits-x
float_from_bits-x c = no_nan c.args.b (omega (arith, c.requires))
