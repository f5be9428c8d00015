use Rattle.std.proofs.Common.{sym, ◌∙◌, arith}
use Rattle.refusals.proofs.Refused.{let_through}
use Rattle.refusals.specs.declared.refusal.Refusal.TheVariants.{NotEights}
use Rattle.byte_lists.proofs.Fronts.{length_doubles}
use Rattle.byte_lists.proofs.Tens.{ten_answered}
use Rattle.gridding.proofs.Griddings.{gridded, few_written, finished}
use Rattle.gridding.proofs.grid.t_to_s_topp2_grid.Goals as goal

pub finish-requires : goal.finish-requires
finish-requires c =
    let a = c.args in
    let none = sym c.in_ok-n.ensures.refused in
    let z = gridded _ _ _ _ _ _ _ none in
    let few = few_written _ _ _ _ _ _ _ _ _ _ none c.in_ok-n.ensures.held c.t_to_s_topp2_core-found.ensures in
    (omega (arith, z.1, length_doubles a.s.now), omega (arith, z.0, z.1, length_doubles a.t.now), few)

pub returns : goal.returns
returns c =
    let none = sym c.in_ok-n.ensures.refused in
    ten_answered _ (sym c.four_in_eights.ensures ∙ let_through {A = Unit {0}} NotEights _ tt c.in_ok-unless.ensures)
    (finished _ _ _ _ _ _ _ _ _ _ none c.in_ok-n.ensures.held c.t_to_s_topp2_core-found.ensures _ _ c.finish.ensures)
