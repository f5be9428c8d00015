use Rattle.std.proofs.Common.{◌≤◌, sym, arith, rules}
use Rattle.byte_lists.proofs.Fronts.{length_doubles}
use Rattle.sampling.proofs.Samplings.{timed}
use Rattle.refusals.specs.Most.{most_samples}
use Rattle.gridding.proofs.Griddings.{laid}
use Rattle.gridding.proofs.grid.check.Goals as goal

pub check_even-requires : goal.check_even-requires
check_even-requires c =
    let q = timed _ _ _ (sym c.in_ok-check.ensures) in
    omega (arith, q.1, q.2, length_doubles c.args.p.t.now)

pub overflow_add-n : goal.overflow_add-n
overflow_add-n c =
    let few : c.in_ok-n.n ≤ most_samples = rw c.in_ok-n.ensures.held (laid _ _ _ (sym c.in_ok-n.ensures.refused)).few in
    search rules
