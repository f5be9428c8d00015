use Rattle.std.proofs.Common.{◌+◌, ◌/◌, arith}
use Rattle.rounding.proofs.Scaled.{no_nan}
use Rattle.near_roots.proofs.floats.rough.Goals as goal

pub float_from_bits-y0 : goal.float_from_bits-y0
float_from_bits-y0 c = no_nan (c.args.b / 2 + 0x1ff7_6f4b_0000_0000) (omega (arith, c.requires))
