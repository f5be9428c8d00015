-- Scans and folds over the table are scans and folds over the rows, and one pass gathers them all.
use Rattle.std.proofs.Common.{◌≡◌, refl, ap, ◌∙◌, Bool, true, false, not, ◌&&◌, ◌||◌, cond, List, [], ◌∷◌}
use lib.Ieee.{Float}
use Rattle.rows.specs.Rows.{Row, fold, any}
use Rattle.rows.specs.Row.{empty}
use Rattle.rows.specs.Reading.{block_of}
use Rattle.rows.specs.declared.block.Block.{Block}
use Rattle.limits.specs.Projection.{reach, incline, narrowed, unreachable, flat}
use Rattle.limits.specs.declared.projection.Span.{Span}
use Rattle.tables.specs.Table.{blocks}
use Rattle.tables.specs.ByBlocks.{cut_by_block, unreachable_block, flat_block, gathered_block, gathered}
use Rattle.tables.specs.declared.projection.Gathered.{Gathered}

module _ (tol a : Float) where
  table_scan : (p : Row → Bool) (r : Block → Bool) → ((w : Row) → p w ≡ (not (empty w) && r (block_of tol a w)))
      → (rows : List Row) → any r (blocks tol a rows) ≡ any p rows
  unfolding any blocks
  table_scan p r h [] = refl
  table_scan p r h (w ∷ rows) = rw (h w) (go (empty w) (table_scan p r h rows))
    where
      go : (e : Bool) → any r (blocks tol a rows) ≡ any p rows
          → any r (cond e (blocks tol a rows) (block_of tol a w ∷ blocks tol a rows)) ≡ (not e && r (block_of tol a w)) || any p rows
      go true k = k
      go false k = ap (λ (t : Bool). r (block_of tol a w) || t) k

  pub table_unreachable : (rows : List Row) → any (unreachable_block tol) (blocks tol a rows) ≡ any (unreachable tol a) rows
  unfolding unreachable reach block_of
  table_unreachable = table_scan (unreachable tol a) (unreachable_block tol) (λ w. refl)

  pub table_flat : (rows : List Row) → any (flat_block tol) (blocks tol a rows) ≡ any (flat tol a) rows
  unfolding flat reach incline block_of
  table_flat = table_scan (flat tol a) (flat_block tol) (λ w. refl)

  pub table_narrowed : (s : Span) (rows : List Row) → fold (cut_by_block tol) s (blocks tol a rows) ≡ fold (narrowed tol a) s rows
  unfolding fold blocks narrowed reach incline block_of
  table_narrowed s [] = refl
  table_narrowed s (w ∷ rows) = go (empty w) (λ s. table_narrowed s rows)
    where
      go : (e : Bool) → ((s : Span) → fold (cut_by_block tol) s (blocks tol a rows) ≡ fold (narrowed tol a) s rows)
          → fold (cut_by_block tol) s (cond e (blocks tol a rows) (block_of tol a w ∷ blocks tol a rows))
          ≡ fold (narrowed tol a) (cond e s (cut_by_block tol s (block_of tol a w))) rows
      go true rest = rest s
      go false rest = rest (cut_by_block tol s (block_of tol a w))

-- ---- one pass for three

or_assoc : (a b c : Bool) → (a || b) || c ≡ a || (b || c)
or_assoc true b c = refl
or_assoc false b c = refl

module _ (tol : Float) where
  abbrev after : Gathered → List Block → Gathered
  after g bs = record { unreachable = g.unreachable || any (unreachable_block tol) bs; flat = g.flat || any (flat_block tol) bs; span = fold (cut_by_block tol) g.span bs }

  or_none : (a : Bool) → a || false ≡ a
  or_none true = refl
  or_none false = refl

  gather_all : (g : Gathered) (bs : List Block) → fold (gathered_block tol) g bs ≡ after g bs
  unfolding fold any gathered_block
  gather_all g [] = rw (or_none g.unreachable, or_none g.flat)
  gather_all g (b ∷ bs) =
      gather_all (gathered_block tol g b) bs
      ∙ rw (or_assoc g.unreachable (unreachable_block tol b) (any (unreachable_block tol) bs), or_assoc g.flat (flat_block tol b) (any (flat_block tol) bs))

  pub pass_gathered : (s : Span) (bs : List Block) → fold (gathered_block tol) (record { unreachable = false; flat = false; span = s }) bs ≡ gathered tol s bs
  unfolding gathered
  pass_gathered s bs = gather_all (record { unreachable = false; flat = false; span = s }) bs
