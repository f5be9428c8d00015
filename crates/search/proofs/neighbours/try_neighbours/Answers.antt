use Rattle.std.proofs.Common.{ℕ, ◌≡◌, refl, sym, ap, ◌∙◌, ◌+◌, ◌-◌, arith}
use lib.Ieee.{Float, binary64, lt}
use Rattle.number.specs.Leaves.{next_down}
use Rattle.tables.specs.ByBlocks.{certificate_by}
use Rattle.search.specs.Search.{neighbours, try_neighbours}
use Rattle.search.specs.declared.answer.Certified.{Certified}
use Rattle.search.specs.declared.neighbours.Near.TheVariants.{Found, ToMiddle}
use Rattle.search.proofs.Turns.{near_below, near_end, near_found, near_on}
use Rattle.search.proofs.neighbours.try_neighbours.Goals as goal

pub loop-tried-init : goal.loop-tried-init
unfolding try_neighbours
loop-tried-init c = refl

pub returns-then-x-s : goal.returns-then-x-s
returns-then-x-s c =
    let l = c.loop-tried in
    let cert = certificate_by c.args.t in
    (sym (near_below cert c.args.s.low (6 - l.tried) (lt l.x c.args.s.low) (cert l.x) l.x l.tried c.if-x-s.true) ∙ l.invariant, omega arith)

pub returns-in-Some : goal.returns-in-Some
returns-in-Some c =
    let l = c.loop-tried in
    let low = c.args.s.low in
    let cert = certificate_by c.args.t in
    let passed = sym c.certify.ensures ∙ c.in-Some.is in
    let here = near_found cert low (6 - l.tried) (lt l.x low) (cert l.x) l.x l.tried _ (omega arith) c.if-x-s.false passed in
    (ap (λ (r : Certified). Found r) c.with.ensures ∙ sym here ∙ l.invariant, omega arith)

pub loop-tried-preserved : goal.loop-tried-preserved
loop-tried-preserved c =
    let l = c.loop-tried in
    let low = c.args.s.low in
    let cert = certificate_by c.args.t in
    let n = l.tried in
    let y = next_down binary64 l.x in
    let d : 6 - n - 1 ≡ 6 - (n + 1) = omega arith in
    let failed = sym c.certify.ensures ∙ c.in_default.is in
    ap (λ (v : Float). neighbours cert low (6 - (n + 1)) (lt v low) (cert v) v (n + 1)) c.next_down-x.ensures
    ∙ ap (λ (k : ℕ). neighbours cert low k (lt y low) (cert y) y (n + 1)) (sym d)
    ∙ sym (near_on cert low (6 - n) (lt l.x low) (cert l.x) l.x n (omega arith) c.if-x-s.false failed)
    ∙ l.invariant

pub returns : goal.returns
returns c =
    let l = c.loop-tried in
    let low = c.args.s.low in
    let cert = certificate_by c.args.t in
    let six : l.tried ≡ 6 = omega arith in
    (ap (λ (k : ℕ). ToMiddle k) (sym six) ∙ sym (near_end cert low (6 - l.tried) (lt l.x low) (cert l.x) l.x l.tried (omega arith)) ∙ l.invariant, omega arith)
