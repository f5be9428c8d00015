use Rattle.std.proofs.Common.{ℕ, ◌-◌, sym, ap, ◌∙◌}
use Rattle.loops.specs.Upto.{at}
use Rattle.byte_lists.specs.Bytes.{doubles_of}
use Rattle.byte_lists.proofs.Fronts.{length_doubles}
use Rattle.gridding.specs.Grid.{last_of}
use Rattle.gridding.proofs.grid.last.Goals as goal

pub returns : goal.returns
unfolding last_of
returns c =
    let x = c.args.x.now in
    c.double_at.ensures ∙ ap (λ (n : ℕ). at (doubles_of x) (n - 1)) (sym (length_doubles x))
