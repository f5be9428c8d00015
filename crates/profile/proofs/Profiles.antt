-- What a profile that passes its checks has.
use Rattle.std.proofs.Common.{ℕ, ◌≡◌, true, ◌&&◌, List, arith, leb-true, eqb-true, leb, eqb, length, Float}
use Rattle.std.specs.Float.Ieee.Scale.{finite}
use Rattle.loops.specs.Entries.{every_entry}
use Rattle.loops.proofs.Counting.{and_left, and_right}
use Rattle.refusals.specs.Refusals.{unless}
use Rattle.refusals.specs.Most.{most_stations}
use Rattle.refusals.proofs.Chains.{or_none, unless_none}
use Rattle.profile.specs.Profile.{Shaped, lengths_no, entries_no, profile_no}

pub lengths_pass : (n m : ℕ) → lengths_no n m ≡ 0 → Shaped n m
unfolding lengths_no
lengths_pass n m h =
    let two = leb 2 n in
    let few = leb n most_stations in
    let p = or_none (unless (two && few) 11) (unless (eqb m n) 12) h in
    let ok = unless_none (two && few) 11 (omega arith) p.0 in
    record {
      low = leb-true 2 n (and_left two few ok);
      high = leb-true n most_stations (and_right two few ok);
      same = eqb-true m n (unless_none (eqb m n) 12 (omega arith) p.1);
    }

pub shaped : (s a : List Float) → profile_no s a ≡ 0 → Shaped (length s) (length a)
unfolding profile_no
shaped s a h = lengths_pass (length s) (length a) (or_none (lengths_no (length s) (length a)) (entries_no s a) h).0

pub both_finite : (s a : List Float) → profile_no s a ≡ 0 → (every_entry finite s ≡ true) × (every_entry finite a ≡ true)
unfolding profile_no entries_no
both_finite s a h =
    let p = or_none _ _ (or_none (lengths_no (length s) (length a)) _ h).1 in
    (unless_none _ 13 (omega arith) p.0, unless_none _ 14 (omega arith) (or_none _ _ p.1).0)
