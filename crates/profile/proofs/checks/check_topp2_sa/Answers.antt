use Rattle.std.proofs.Common.{◌≡◌, sym, rules}
use Rattle.byte_lists.proofs.Fronts.{length_doubles}
use Rattle.profile.proofs.Profiles.{lengths_pass}
use Rattle.profile.proofs.checks.check_topp2_sa.Goals as goal

pub invariant_of-result : goal.invariant_of-result
invariant_of-result c =
    let s : c.in_ok-stations.stations.bytes.now ≡ c.args.s.now = search rules in
    let a : c.in_ok-speeds.speeds.bytes.now ≡ c.args.a.now = search rules in
    record { shaped = rw (s, a, length_doubles c.args.s.now, length_doubles c.args.a.now) (lengths_pass _ _ (sym c.in_ok-check_lengths.ensures)) }
