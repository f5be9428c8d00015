-- One byte more belongs to a run.
use Rattle.std.proofs.Common.{ℕ, suc, ◌+◌, ◌-◌, ◌<◌, ◌≤◌, ◌≡◌, Bool, true, false, List, length, get_or, arith, add-one}
use Rattle.loops.specs.Upto.{seek}
use Rattle.words.specs.Spots.{run_end}

module _ (l : List ℕ) (i : ℕ) (p : ℕ → Bool) where
  pub run_turn : i < length l → p (get_or l i 0) ≡ true → run_end l (i + 1) p ≡ run_end l i p
  unfolding run_end seek
  run_turn h b =
      let k : length l - i ≡ suc (length l - (i + 1)) = omega arith in
      rw (k, b, add-one)

  pub run_stops : i < length l → p (get_or l i 0) ≡ false → run_end l i p ≡ i
  unfolding run_end seek
  run_stops h b =
      let k : length l - i ≡ suc (length l - (i + 1)) = omega arith in
      rw (k, b)

  pub run_past : length l ≤ i → run_end l i p ≡ i
  unfolding run_end seek
  run_past h =
      let k : length l - i ≡ 0 = omega arith in
      rw k
