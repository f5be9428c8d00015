-- A loop over the blocks of a table: what is left of them at an index.
use Rattle.std.proofs.Common.{◌≡◌, ℕ, ◌+◌, ◌≤◌, ◌<◌, Bool, true, false, List, length, get_or, drop}
use Rattle.std.proofs.lemmas.List.{drop_more, drop_all}
use Rattle.rows.specs.Rows.{fold, all}
use Rattle.rows.specs.declared.block.Block.{Block}

module _ (l : List Block) (i : ℕ) where
  pub fold_on : {S : Type 0} (f : S → Block → S) (s : S) (d : Block) → i < length l → fold f s (drop i l) ≡ fold f (f s (get_or l i d)) (drop (i + 1) l)
  unfolding fold
  fold_on f s d h = rw (drop_more l i d h)

  pub fold_done : {S : Type 0} (f : S → Block → S) (s : S) → length l ≤ i → fold f s (drop i l) ≡ s
  unfolding fold
  fold_done f s h = rw (drop_all i l h)

  pub all_here : (p : Block → Bool) (d : Block) → i < length l → p (get_or l i d) ≡ false → all p (drop i l) ≡ false
  unfolding all
  all_here p d h e = rw (drop_more l i d h, e)

  pub all_past : (p : Block → Bool) (d : Block) → i < length l → p (get_or l i d) ≡ true → all p (drop i l) ≡ all p (drop (i + 1) l)
  unfolding all
  all_past p d h e = rw (drop_more l i d h, e)

  pub all_done : (p : Block → Bool) → length l ≤ i → all p (drop i l) ≡ true
  unfolding all
  all_done p h = rw (drop_all i l h)
