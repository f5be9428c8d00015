use Rattle.std.proofs.Common.{ℕ, ◌<◌, ◌/◌, ◌%◌, ◌^◌, ◌≤◌, arith}
use Rattle.near_roots.proofs.WholeFloats.{in_float_lem, whole_pattern}
use Rattle.near_roots.proofs.floats.of_whole.Goals as goal

short : (h : ℕ) → h < 2 ^ 64 → h / 4294967296 ≤ 2 ^ 53
short h f = omega arith

pub int_to_float-f : goal.int_to_float-f
int_to_float-f c = in_float_lem (c.args.h / 4294967296) (short _ c.ranges.h.fits)

pub float_to_bits-f : goal.float_to_bits-f
float_to_bits-f c = (whole_pattern (c.args.h / 4294967296) (short _ c.ranges.h.fits)).0

pub rough-requires : goal.rough-requires
rough-requires c = (whole_pattern (c.args.h / 4294967296) (short _ c.ranges.h.fits)).1

pub int_to_float-h : goal.int_to_float-h
int_to_float-h c = in_float_lem (c.args.h % 4294967296) (omega arith)
