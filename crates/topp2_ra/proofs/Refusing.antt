-- Refusals 1 to 4 come first: what is answered where one of them is given, and where none is.
use Rattle.std.proofs.Common.{ℕ, ◌/◌, ◌%◌, ◌≡◌, true, ◌&&◌, Err, List, arith, eqb, leb, length}
use Rattle.std.proofs.lemmas.Bool.{leb-true, le-leb}
use lib.Ieee.{Float}
use Rattle.loops.proofs.Counting.{and_right}
use Rattle.byte_lists.specs.Bytes.{doubles_of}
use Rattle.byte_lists.proofs.Fronts.{length_doubles}
use Rattle.refusals.specs.Most.{most_rows}
use Rattle.refusals.specs.Refusals.{unless, ◌or◌}
use Rattle.refusals.proofs.Chains.{or_none, unless_none}
use Rattle.refusals.proofs.Outcomes.{or_stop, answered_refused}
use Rattle.rows.specs.Rows.{rows_of, whole_rows}
use Rattle.rows.specs.Row.{rows_no}
use Rattle.limits.specs.declared.request.Request.{Request}
use Rattle.search.specs.Cap.{with_cap, of_rows, with_rows}
use Rattle.topp2_ra.specs.Recovery.{inputs_good, previous_good, current_good, request_no, recovered}

-- refusal 1, of the bytes
pub whole_bytes : (b : List ℕ) → (eqb (length b / 8 % 3) 0 && leb (length b / 8) 768) ≡ whole_rows (doubles_of b)
unfolding whole_rows
whole_bytes b = rw (length_doubles b)

module _ (q : Request) (l : List Float) where
  -- whole rows are no more than the search takes
  whole_few : whole_rows l ≡ true → leb (length l / 3) most_rows ≡ true
  unfolding whole_rows
  whole_few h = let k = leb-true (length l) 768 (and_right (eqb (length l % 3) 0) (leb (length l) 768) h) in le-leb (length l / 3) 256 (omega (arith, k))

  pub none_refused : request_no q l ≡ 0 → with_rows q l ≡ recovered q l
  unfolding request_no recovered with_rows of_rows
  none_refused h =
      let later = unless (inputs_good q) 2 or unless (previous_good q) 3 or unless (current_good q) 4 in
      let whole = unless_none (whole_rows l) 1 (omega arith) (or_none (unless (whole_rows l) 1) later h).0 in
      rw (h, whole_few whole)

  pub one_refused : (number : ℕ) → number ≡ request_no q l → (number ≡ 0 → ⊥) → Err number ≡ recovered q l
  unfolding recovered
  one_refused number e h =
      answered_refused (with_cap q (rows_of l)) Err (request_no q l or rows_no q.tolerances.feas (rows_of l)) number
      (or_stop number (request_no q l) (rows_no q.tolerances.feas (rows_of l)) e h) h
