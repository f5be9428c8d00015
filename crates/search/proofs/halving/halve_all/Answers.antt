use Rattle.std.proofs.Common.{◌≡◌, refl, sym, ap, ◌∙◌, ◌+◌, ◌-◌, arith}
use lib.Ieee.{Float}
use Rattle.certificates.proofs.Verdicts.{verdict}
use Rattle.tables.specs.ByBlocks.{certificate_by, passes_by}
use Rattle.tables.proofs.Tables.{verdict_on}
use Rattle.search.specs.Search.{Ends, stops, halvings}
use Rattle.search.specs.OnTable.{ends_on}
use Rattle.search.specs.declared.halving.Sides.{Sides}
use Rattle.search.proofs.Turns.{halvings_on, halvings_stop, halvings_done, meet_stops, sides_halved, sides_pass, sides_tried}
use Rattle.search.proofs.halving.halve_all.Goals as goal

pub loop-init : goal.loop-init
loop-init c = record { tried = omega arith; halved = refl; passing = c.requires.1 }

pub returns-then-at_an_end : goal.returns-then-at_an_end
returns-then-at_an_end c =
    let l = c.loop in
    let cert = certificate_by c.args.t in
    let stop = sym (meet_stops cert l.s) ∙ sym c.at_an_end.ensures ∙ c.if-at_an_end.true in
    (sym (halvings_stop cert (64 - l.counter) (ends_on cert l.s) stop) ∙ l.invariant.halved, l.invariant.passing)

pub halve-s-requires : goal.halve-s-requires
halve-s-requires c = omega (arith, c.requires.0, c.loop.invariant.tried)

pub loop-preserved : goal.loop-preserved
loop-preserved c =
    let t = c.args.t in
    let l = c.loop in
    let s = l.s in
    let cert = certificate_by t in
    let passes = passes_by t in
    let same : (x : Float) → verdict (cert x) ≡ passes x = λ x. verdict_on t.tol x t.bounds t.table.now in
    let h = c.halve-s.ensures in
    let on = sym (meet_stops cert s) ∙ sym c.at_an_end.ensures ∙ c.if-at_an_end.false in
    let less : 64 - l.counter - 1 ≡ 64 - (l.counter + 1) = omega arith in
    record {
      tried = omega (arith, ap (λ (x : Sides). x.tried) h, sides_tried cert passes s, l.invariant.tried);
      halved =
          rw (← less)
          (ap (λ (x : Sides). halvings cert (64 - l.counter - 1) (stops (ends_on cert x)) (ends_on cert x)) h
          ∙ ap (λ (e : Ends). halvings cert (64 - l.counter - 1) (stops e) e) (sym (sides_halved cert passes same s))
          ∙ sym (halvings_on cert (64 - l.counter) (ends_on cert s) (omega arith) on)
          ∙ l.invariant.halved);
      passing = ap (λ (x : Sides). passes x.passing) h ∙ sides_pass cert passes same s l.invariant.passing;
    }

pub returns : goal.returns
returns c =
    let l = c.loop in
    let cert = certificate_by c.args.t in
    (sym (halvings_done cert (64 - l.counter) (stops (ends_on cert l.s)) (ends_on cert l.s) (omega arith)) ∙ l.invariant.halved, l.invariant.passing)
