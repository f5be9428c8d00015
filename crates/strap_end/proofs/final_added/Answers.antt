use Rattle.std.proofs.Common.{◌≡◌, true, false, sym, ◌∙◌}
use Rattle.std.specs.Float.Ieee.{le}
use Rattle.strap_end.specs.Final.{final_added}
use Rattle.strap_end.proofs.final_added.Goals as goal
use Rattle.strap_end.proofs.final_added.Goals.{then-asked, else-asked}

pub returns-then-t0-time : goal.returns-then-t0-time
unfolding final_added
returns-then-t0-time c =
    elim c.if-asked.branch [
      | then-asked w ↦
          let begun : le c.args.t0 c.args.time ≡ true = sym w.value-is ∙ c.if-t0-time.true in
          rw (w.if-asked.true, begun)
      | else-asked w ↦ cc
    ]

pub returns-else-t0-time : goal.returns-else-t0-time
unfolding final_added
returns-else-t0-time c =
    elim c.if-asked.branch [
      | then-asked w ↦
          let over : le c.args.t0 c.args.time ≡ false = sym w.value-is ∙ c.if-t0-time.false in
          rw (w.if-asked.true, over) c.if-t0-time.false
      | else-asked w ↦ rw w.if-asked.false c.if-t0-time.false
    ]
