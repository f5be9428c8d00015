-- The certificate's verdict is whether the speed passes. Assumes nothing.
use Rattle.std.proofs.Common.{◌≡◌, refl, sym, ap, ◌∙◌, subst, List, Bool, true, false, not, cond, T, Some, None}
use lib.Ieee.{Float}
use Rattle.rows.specs.Rows.{Row}
use Rattle.limits.specs.declared.request.Request.{Request}
use Rattle.certificates.specs.Certificate.{passes, worst_normalized, worst_raw, figures, Certificate, certificate}
use Rattle.certificates.specs.declared.certificate.Figures.{Figures}

abbrev pub verdict : Certificate → Bool
verdict (Some f) = true
verdict None = false

module _ (q : Request) (rows : List Row) (x : Float) where
  pub verdict_is : verdict (certificate q rows x) ≡ passes q rows x
  unfolding certificate
  verdict_is = go (passes q rows x)
    where
      go : (b : Bool) → verdict (cond b (Some (figures (worst_normalized q rows x) (worst_raw q rows x))) None) ≡ b
      go true = refl
      go false = refl

  pub passed : (f : Figures) → certificate q rows x ≡ Some f → T (passes q rows x)
  passed f e = subst T (sym (ap verdict e) ∙ verdict_is) tt

  pub failed : certificate q rows x ≡ None → T (not (passes q rows x))
  failed e = subst (λ (b : Bool). T (not b)) (sym (ap verdict e) ∙ verdict_is) tt
