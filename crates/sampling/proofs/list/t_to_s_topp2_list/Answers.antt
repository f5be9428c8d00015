use Rattle.std.proofs.Common.{refl, sym, ap, ◌∙◌, Ok}
use Rattle.refusals.proofs.Outcomes.{or_next, succeeds}
use Rattle.refusals.proofs.Refused.{let_through}
use Rattle.refusals.specs.declared.refusal.Refusal.TheVariants.{NotEights}
use Rattle.byte_lists.proofs.Tens.{ten_answered}
use Rattle.sampling.specs.List.{list_no}
use Rattle.sampling.proofs.Samplings.{list_done}
use Rattle.sampling.proofs.list.t_to_s_topp2_list.Goals as goal

pub returns : goal.returns
unfolding list_no
returns c =
    let none = sym (or_next _ _ _ _ c.in_ok-check.ensures refl c.in_ok-check_samples.ensures) in
    let f = list_done _ _ _ _ _ _ _ none c.t_to_s_topp2_core.ensures in
    ten_answered _ (sym c.all_in_eights.ensures ∙ let_through {A = Unit {0}} NotEights _ tt c.in_ok-unless.ensures) (succeeds none (ap Ok f.0) f.1)
