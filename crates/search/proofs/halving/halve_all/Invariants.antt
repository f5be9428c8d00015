use Rattle.std.proofs.Common.{◌≡◌, ◌+◌, ◌-◌, ◌≤◌, true}
use Rattle.tables.specs.ByBlocks.{certificate_by, passes_by}
use Rattle.search.specs.Search.{stops, halvings}
use Rattle.search.specs.OnTable.{ends_on, halved_all}
use Rattle.search.proofs.halving.halve_all.Given as goal

abbrev pub invariant-loop : goal.invariant-loop
invariant-loop l = record {
  tried : l.s.tried ≤ l.initial.s.tried + l.counter;
  halved : let cert = certificate_by l.t in halvings cert (64 - l.counter) (stops (ends_on cert l.s)) (ends_on cert l.s) ≡ halved_all cert l.initial.s;
  passing : passes_by l.t l.s.passing ≡ true;
}
