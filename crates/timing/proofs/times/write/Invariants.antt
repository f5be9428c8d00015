use Rattle.std.proofs.Common.{◌≡◌, ◌*◌}
use Rattle.loops.specs.Upto.{filled, at}
use Rattle.byte_lists.specs.Bytes.{byte_of}
use Rattle.timing.proofs.times.write.Given as goal

abbrev pub invariant-loop-k : goal.invariant-loop-k
invariant-loop-k l = l.out ≡ filled (byte_of (at l.times)) (8 * l.k) l.initial.out
