-- Demand 3: "two lists joined pass exactly what both pass." Assumes nothing.
use mathlib.Core.Path.{◌≡◌, refl, ap, ◌∙◌}
use mathlib.Core.List.{List, [], ◌∷◌, ◌++◌}
use mathlib.Core.Bool.{Bool, true, false, ◌&&◌}
use Prim.Native.Nat.{◌%◌}
use native.Mathlib.Omega.{arith}
use lib.ListN.{length}
use lib.Ieee.{Float}
use Rattle.rows.specs.Rows.{Row, row, rows_of, all}
use Rattle.rows.specs.Row.{admits}
use Rattle.limits.specs.declared.request.Request.{Request}
use Rattle.certificates.specs.Certificate.{between, passes}

-- the rows of a list joined to whole rows
rows_joined : (l m : List Float) → length l % 3 ≡ 0 → rows_of (l ++ m) ≡ rows_of l ++ rows_of m
unfolding rows_of
rows_joined [] m e = refl
rows_joined (a ∷ []) m e = absurd (omega arith)
rows_joined (a ∷ b ∷ []) m e = absurd (omega arith)
rows_joined (a ∷ b ∷ c ∷ l) m e = ap (λ (t : List Row). row a b c ∷ t) (rows_joined l m (omega arith))

all_joined : (p : Row → Bool) (l m : List Row) → all p (l ++ m) ≡ (all p l && all p m)
unfolding all
all_joined p [] m = refl
all_joined p (w ∷ l) m = go (p w) (all_joined p l m)
  where
    go : (b : Bool) {c : Bool} → c ≡ (all p l && all p m) → (b && c) ≡ ((b && all p l) && all p m)
    go true e = e
    go false e = refl

-- "exactly what both pass"; what follows the last whole row of m is no row
pub join : (q : Request) (l m : List Float) (x : Float) → length l % 3 ≡ 0 → passes q (rows_of (l ++ m)) x ≡ (passes q (rows_of l) x && passes q (rows_of m) x)
unfolding passes
join q l m x e =
    ap (λ (rows : List Row). between q x && all (admits q.tolerances.feas q.a_prev x) rows) (rows_joined l m e)
    ∙ ap (λ (c : Bool). between q x && c) (all_joined (admits q.tolerances.feas q.a_prev x) (rows_of l) (rows_of m))
    ∙ go (between q x) (all (admits q.tolerances.feas q.a_prev x) (rows_of l)) (all (admits q.tolerances.feas q.a_prev x) (rows_of m))
  where
    -- the bounds are tested in both
    go : (b u v : Bool) → (b && (u && v)) ≡ ((b && u) && (b && v))
    go false u v = refl
    go true u v = refl
