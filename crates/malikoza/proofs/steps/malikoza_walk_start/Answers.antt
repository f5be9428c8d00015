use Rattle.malikoza.proofs.Walks.{starting}
use Rattle.malikoza.proofs.steps.malikoza_walk_start.Goals as goal

pub returns : goal.returns
returns c =
    let a = c.args in
    starting a.feas_tol a.a_cmp_abs_tol a.a_cmp_rel_tol a.start_speed a.lower a.upper a.cap c.start_words.ensures
