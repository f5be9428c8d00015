-- Rows of a list from an index on: what every loop over rows asks.
use Rattle.std.proofs.Common.{ℕ, suc, ◌+◌, ◌-◌, ◌≤◌, ◌<◌, ◌≡◌, refl, ◌∙◌, List, [], ◌∷◌, arith, length, get_or, drop, length-drop, drop-cons}
use native.Mathlib.Numerals.{towards_suc}
use lib.Ieee.{Float, nan}
use Rattle.rows.specs.Rows.{Row, row, rows_of, fold}
use Rattle.rows.specs.Reading.{Reading, reading_of}

abbrev pub row_at : List Float → ℕ → Row
row_at l i = row (get_or l i nan) (get_or l (i + 1) nan) (get_or l (i + 2) nan)

-- a row read double by double
pub read_at : (tol a : Float) (l : List Float) (i : ℕ) (c p r : Float) (v : Reading) → c ≡ get_or l i nan → p ≡ get_or l (i + 1) nan → r ≡ get_or l (i + 2) nan
    → v ≡ reading_of tol a (row c p r) → v ≡ reading_of tol a (row_at l i)
read_at tol a l i c p r v e f g h = h ∙ rw (e, f, g)

pub rows_at : (l : List Float) (i : ℕ) → i + 3 ≤ length l → rows_of (drop i l) ≡ row_at l i ∷ rows_of (drop (i + 3) l)
unfolding rows_of
rows_at l i h =
    simp towards_suc
    (rw (drop-cons l i nan (omega arith), drop-cons l (suc i) nan (omega arith), drop-cons l (suc (suc i)) nan (omega arith)))

short : (l : List Float) → length l < 3 → rows_of l ≡ []
unfolding rows_of
short [] h = refl
short (a ∷ []) h = refl
short (a ∷ b ∷ []) h = refl
short (a ∷ b ∷ c ∷ l) h = absurd (omega arith)

pub rows_end : (l : List Float) (i : ℕ) → length l - i < 3 → rows_of (drop i l) ≡ []
rows_end l i h = short (drop i l) (omega (arith, length-drop i l))

pub fold_at : {S : Type 0} (f : S → Row → S) (s : S) (l : List Float) (i : ℕ)
    → i + 3 ≤ length l → fold f s (rows_of (drop i l)) ≡ fold f (f s (row_at l i)) (rows_of (drop (i + 3) l))
unfolding fold
fold_at f s l i h = rw (rows_at l i h)

pub fold_end : {S : Type 0} (f : S → Row → S) (s : S) (l : List Float) (i : ℕ) → length l - i < 3 → fold f s (rows_of (drop i l)) ≡ s
unfolding fold
fold_end f s l i h = rw (rows_end l i h)
