use Rattle.groups.specs.Groups.{value_of}
use Rattle.groups.proofs.Values.{Down}
use Rattle.groups.proofs.value.Given as goal

abbrev pub invariant-loop-k : goal.invariant-loop-k
invariant-loop-k l = Down l.bytes l.at l.k l.value (value_of l.bytes l.at l.n)
