-- A speed that passes shows that no row is refused.
use Rattle.std.proofs.Common.{◌≡◌, refl, Bool, true, false, ◌&&◌, ◌||◌, List, [], ◌∷◌, T}
use lib.Ieee.{Float}
use lib.Ieee.Fits.{and_r}
use Rattle.rows.specs.Rows.{Row, any, all}
use Rattle.rows.specs.Row.{admits, unfit, unmeetable, rows_no}
use Rattle.limits.specs.declared.request.Request.{Request}
use Rattle.certificates.specs.Certificate.{between, passes}
use Rattle.certificates.proofs.Certificates.{unfit_breaks, unmeetable_breaks}

-- what some test excludes, where all pass it
none_such : (p bad : Row → Bool) → ((w : Row) → bad w ≡ true → p w ≡ false) → (rows : List Row) → T (all p rows) → any bad rows ≡ false
unfolding any all
none_such p bad h [] e = refl
none_such p bad h (w ∷ rows) e = go (p w) (bad w) (h w) (none_such p bad h rows) e
  where
    go : (g b : Bool) → (b ≡ true → g ≡ false) → (T (all p rows) → any bad rows ≡ false) → T (g && all p rows) → b || any bad rows ≡ false
    go true true k rest e = k refl
    go true false k rest e = rest e
    go false b k rest e = absurd e

pub passed_fit : (q : Request) (rows : List Row) (x : Float) → T (passes q rows x) → rows_no q.tolerances.feas rows ≡ 0
unfolding passes rows_no
passed_fit q rows x h =
    let tol = q.tolerances.feas in
    let a = q.a_prev in
    let e = and_r (between q x) (all (admits tol a x) rows) h in
    rw (
      none_such (admits tol a x) (unfit tol) (λ w. unfit_breaks tol a x w) rows e,
      none_such (admits tol a x) unmeetable (λ w. unmeetable_breaks tol a x w) rows e,
    )
