use Rattle.std.proofs.Common.{ℕ, ◌+◌, sym, ap, ◌∙◌, arith}
use lib.Count.{leading_le}
use Rattle.whole_fma.specs.TwoLimbs.{whole, cut}
use Rattle.whole_fma.proofs.Windowed.{spare_most, spare_few, narrowed}
use Rattle.whole_fma.proofs.window.narrow.Goals as goal

pub returns-then-n-ge18014398509481984 : goal.returns-then-n-ge18014398509481984
returns-then-n-ge18014398509481984 c =
    let n = c.args.n in
    let w = c.cut_wide in
    let e = sym (spare_most n.hi n.lo (omega arith) (omega arith) c.if-n-ge18014398509481984.true) in
    (narrowed n.hi n.lo (omega arith) (omega arith) w.result.hi w.result.lo (w.ensures ∙ ap (cut (whole n)) e), ap (λ (x : ℕ). c.args.k + x) e)

pub overflow_cast-sh : goal.overflow_cast-sh
overflow_cast-sh c = record { fits = omega (arith, leading_le 64 c.args.n.hi) }

pub overflow_sub-sh : goal.overflow_sub-sh
overflow_sub-sh c = omega (arith, leading_le 64 c.args.n.hi)

pub returns : goal.returns
returns c =
    let n = c.args.n in
    let w = c.cut_wide-2 in
    let e = sym (spare_few n.hi n.lo (omega arith) (omega arith) c.if-n-ge18014398509481984.false) in
    (narrowed n.hi n.lo (omega arith) (omega arith) w.result.hi w.result.lo (w.ensures ∙ ap (cut (whole n)) e), ap (λ (x : ℕ). c.args.k + x) e)
