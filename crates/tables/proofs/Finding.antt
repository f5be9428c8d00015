-- What the pass over the rows finds: an unfit row wherever it stands, else an unmeetable one, else the blocks of the rows.
use Rattle.std.proofs.Common.{ℕ, zero, suc, ◌+◌, ◌*◌, ◌/◌, ◌<◌, ◌≤◌, drop, Result, min, arith, ◌≡◌, refl, sym, ap, ◌∙◌}
use Rattle.std.proofs.Common.{Bool, true, false, ◌||◌, cond, Some, None, Ok, Err, List, [], ◌∷◌, ◌++◌, Option, append_assoc, append-nil, leb, length}
use Rattle.std.specs.Option.{option_to_list}
use lib.Ieee.{Float}
use Rattle.rows.specs.Rows.{Row, rows_of, fold, any}
use Rattle.rows.specs.Row.{empty, unfit, unmeetable}
use Rattle.rows.specs.Reading.{Reading, block_of, reading_of}
use Rattle.rows.specs.declared.block.Block.{Block}
use Rattle.tables.specs.Table.{blocks}
use Rattle.rows.proofs.RowScans.{row_at, fold_at, fold_end}
use Rattle.byte_lists.specs.Bytes.{doubles_of}
use Rattle.byte_lists.proofs.Fronts.{length_doubles}
use Rattle.refusals.specs.Outcome.{answered}
use Rattle.refusals.specs.Refusal.{number_of, number_in}
use Rattle.refusals.specs.declared.refusal.Refusal.{Refusal}
use Rattle.refusals.proofs.Refused.{number_some}
use Rattle.tables.specs.Findings.{Finding, found_of, found, start, sooner, found_reading, found_row}

module _ (tol a : Float) where
  abbrev pass : Finding → List Row → Finding
  pass s rows = fold (found_row tol a) s rows

  abbrev read : Row → Bool → Bool → Bool → Reading
  read w u m e = cond u (Err 5) (cond m (Err 6) (cond e (Ok None) (Ok (Some (block_of tol a w)))))

  unfit_stays : (rows : List Row) → pass (Err 5) rows ≡ Err 5
  unfolding fold reading_of found_reading
  unfit_stays [] = refl
  unfit_stays (w ∷ rows) = go (unfit tol w) (unmeetable w) (empty w) (unfit_stays rows)
    where
      go : (u m e : Bool) → pass (Err 5) rows ≡ Err 5 → pass (found_reading (Err 5) (read w u m e)) rows ≡ Err 5
      go true m e rest = rest
      go false true e rest = rest
      go false false true rest = rest
      go false false false rest = rest

  -- what is found at the end, where no row before was refused but one unmeetable
  unmeetable_stays : (rows : List Row) → pass (Err 6) rows ≡ cond (any (unfit tol) rows) (Err 5) (Err 6)
  unfolding fold any reading_of found_reading
  unmeetable_stays [] = refl
  unmeetable_stays (w ∷ rows) = go (unfit tol w) (unmeetable w) (empty w) (unmeetable_stays rows)
    where
      go : (u m e : Bool) → pass (Err 6) rows ≡ cond (any (unfit tol) rows) (Err 5) (Err 6)
          → pass (found_reading (Err 6) (read w u m e)) rows ≡ cond (u || any (unfit tol) rows) (Err 5) (Err 6)
      go true m e rest = unfit_stays rows
      go false true e rest = rest
      go false false true rest = rest
      go false false false rest = rest

  abbrev outcome : List Row → List Block → Finding
  outcome rows bs = cond (any (unfit tol) rows) (Err 5) (cond (any unmeetable rows) (Err 6) (Ok bs))

  rows_found : (bs : List Block) (rows : List Row) → pass (Ok bs) rows ≡ outcome rows (bs ++ blocks tol a rows)
  unfolding fold any reading_of found_reading blocks
  rows_found bs [] = ap Ok (sym (append-nil bs))
  rows_found bs (w ∷ rows) = go (unfit tol w) (unmeetable w) (empty w) (λ bs. rows_found bs rows)
    where
      go : (u m e : Bool) → ((bs : List Block) → pass (Ok bs) rows ≡ outcome rows (bs ++ blocks tol a rows))
          → pass (found_reading (Ok bs) (read w u m e)) rows
          ≡ cond (u || any (unfit tol) rows) (Err 5)
          (cond (m || any unmeetable rows) (Err 6) (Ok (bs ++ cond e (blocks tol a rows) (block_of tol a w ∷ blocks tol a rows))))
      go true m e rest = unfit_stays rows
      go false true e rest = unmeetable_stays rows
      go false false true rest = ap (λ (l : List Block). pass (Ok l) rows) (append-nil bs) ∙ rest bs
      go false false false rest = rest (bs ++ (block_of tol a w ∷ [])) ∙ ap (outcome rows) (append_assoc bs (block_of tol a w ∷ []) (blocks tol a rows))

  pass_found : (rows : List Row) → pass start rows ≡ found_of tol a rows
  unfolding found_of
  pass_found rows = rows_found [] rows

  pub found_room : (l : List Float) (n : ℕ) → leb (length l / 3) n ≡ true → pass start (rows_of l) ≡ found tol a l n
  unfolding found
  found_room l n h = rw h (pass_found (rows_of l))

  pub found_none : (l : List Float) (n : ℕ) → leb (length l / 3) n ≡ false → Err 5 ≡ found tol a l n
  unfolding found
  found_none l n h = rw h

-- room for a block for each row, of the bytes
pub same_room : (b : List ℕ) (n : ℕ) → leb (length (doubles_of b) / 3) n ≡ leb (length b / 24) n
same_room b n = let e : length (doubles_of b) / 3 ≡ length b / 24 = omega (arith, length_doubles b) in ap (λ (m : ℕ). leb m n) e

-- ---- the state of the loop: n blocks, and the number m of the refusal so far

abbrev pub so_far : List Block → ℕ → Finding
so_far bs m = answered (Ok bs) Err m

refused_at : (bs : List Block) (m : ℕ) → 0 < m → so_far bs m ≡ Err m
refused_at bs zero h = absurd (omega arith)
refused_at bs (suc m) h = refl

-- a row is refused
pub refused_too : (bs : List Block) (m r : ℕ) → (r ≡ 0 → ⊥) → so_far bs (sooner m r) ≡ found_reading (so_far bs m) (Err r)
unfolding sooner found_reading
refused_too bs zero zero h = absurd (h refl)
refused_too bs zero (suc r) h = refl
refused_too bs (suc m) zero h = absurd (h refl)
refused_too bs (suc m) (suc r) h = refused_at bs (min (suc m) (suc r)) (omega arith)

-- a row says something, or is silent
pub said_too : (bs cs : List Block) (m : ℕ) (said : Option Block) → cs ≡ bs ++ option_to_list said → so_far cs m ≡ found_reading (so_far bs m) (Ok said)
unfolding found_reading
said_too bs cs zero said e = ap Ok e
said_too bs cs (suc m) said e = refl

-- the smaller of two numbers
pub sooner_before : (s r : ℕ) → (s ≡ 0 → ⊥) → s ≤ r → s ≡ sooner s r
unfolding sooner
sooner_before zero r h k = absurd (h refl)
sooner_before (suc s) r h k = omega arith

pub sooner_after : (s r : ℕ) → r ≤ s → (s ≡ 0 → ⊥) → r ≡ sooner s r
unfolding sooner
sooner_after zero r k h = absurd (h refl)
sooner_after (suc s) r k h = omega arith

-- ---- a loop over the rows, read from their bytes

module _ (tol a : Float) (b : List ℕ) where
  abbrev pub left : ℕ → Finding → Finding
  left k s = fold (found_row tol a) s (rows_of (drop (3 * k) (doubles_of b)))

  pub none_left : (k : ℕ) (s : Finding) → length b / 24 ≤ k → left k s ≡ s
  none_left k s h = fold_end (found_row tol a) s (doubles_of b) (3 * k) (omega (arith, length_doubles b))

  pub row_left : (k : ℕ) (v : Reading) (s : Finding) → k < length b / 24 → v ≡ reading_of tol a (row_at (doubles_of b) (3 * k)) → left (k + 1) (found_reading s v) ≡ left k s
  row_left k v s h e =
      let three : 3 * (k + 1) ≡ 3 * k + 3 = omega arith in
      rw (three, e) (sym (fold_at (found_row tol a) s (doubles_of b) (3 * k) (omega (arith, length_doubles b))))

-- what the state says at the end, by whether a row was refused
pub end_refused : (bs : List Block) (met : Result (Unit {0}) Refusal) (e : Refusal) → met ≡ Err e → so_far bs (number_in met) ≡ Err (number_of e)
end_refused bs met e h = rw h (refused_at bs (number_of e) (let some = number_some e in omega (arith, some)))

pub end_met : (bs : List Block) (met : Result (Unit {0}) Refusal) (u : Unit {0}) → met ≡ Ok u → so_far bs (number_in met) ≡ Ok bs
end_met bs met u h = rw h
