use Rattle.requests.specs.FromPatterns.{station_of, tolerances_of}
use Rattle.malikoza.proofs.Reporting.{promised}
use Rattle.malikoza.proofs.recover.malikoza_recover.Goals as goal

pub returns : goal.returns
returns c =
    let a = c.args in
    promised a.a_prev (station_of a.prev_lower a.prev_upper a.prev_cap) a.curr_lower a.curr_upper a.curr_cap
    (tolerances_of a.feas_tol a.a_cmp_abs_tol a.a_cmp_rel_tol) a.rows.now
    (simp (← c.recover_bytes.ensures, ← c.request_from-q.ensures) c.tell.ensures)
