use Rattle.std.proofs.Common.{◌≡◌, Bool, true, false, T, sym, ap, ◌∙◌, subst, ap₂, inl, inr}
use lib.Ieee.{Float, binary64, fits, of_bits, to_bits}
use lib.Ieee.Bits.{of_bits-to_bits, to_bits-lt}
use Rattle.whole_fma.specs.MultiplyAdd.{fma_of}
use Rattle.operands.specs.SignAndSize.{is_special, is_normal}
use Rattle.operands.proofs.Operands.{all_true, normal_not_special}
use Rattle.whole_fma.proofs.Specials.{nan_operand, special_factor, zero_addend, infinite_addend}
use Rattle.whole_fma.proofs.one_rounding.in_whole_numbers.Goals as goal
use Rattle.whole_fma.proofs.one_rounding.in_whole_numbers.Goals.{then-special-via-then-special, then-special-via-else-special+then-special-2, then-not-all_normal+else-special+else-special-2+else-special-3, else-not-all_normal}

-- an `f64`, which the format holds
module _ (x : Float) (F : fits binary64 x ≡ true) where
  held : T (fits binary64 x)
  held = subst T (sym F) tt

  -- what `special` says of its pattern it says of the value
  told : (r b : Bool) → r ≡ is_special (of_bits binary64 (to_bits binary64 x)) → r ≡ b → is_special x ≡ b
  told r b e h = sym (ap is_special (of_bits-to_bits binary64 x held)) ∙ sym e ∙ h

  normal_told : is_normal (to_bits binary64 x) ≡ true → is_special (of_bits binary64 (to_bits binary64 x)) ≡ false
  normal_told e = normal_not_special (to_bits binary64 x) (to_bits-lt binary64 x held) e

pub returns-then-some_nan : goal.returns-then-some_nan
returns-then-some_nan c =
    let a = c.args in
    nan_operand binary64 a.x a.y a.z (sym c.some_nan.ensures ∙ c.if-some_nan.true)

pub returns-then-special : goal.returns-then-special
returns-then-special c =
    let a = c.args in
    elim c.then-special.branch [
      | then-special-via-then-special w ↦ special_factor binary64 a.x a.y a.z (inl (told a.x c.well_formed.0.1 c.special.result _ c.special.ensures w.if-special.true))
      | then-special-via-else-special+then-special-2 w ↦
          let y = w.special-else-special in
          special_factor binary64 a.x a.y a.z (inr (told a.y c.well_formed.1.0.1 y.result _ y.ensures w.if-special-2.true))
    ]

pub returns-then-z : goal.returns-then-z
unfolding of_bits
returns-then-z c =
    let a = c.args in
    let x = c.special in
    let y = c.special-else-special in
    zero_addend binary64 a.x a.y a.z
    (told a.x c.well_formed.0.1 x.result _ x.ensures c.if-special.false)
    (told a.y c.well_formed.1.0.1 y.result _ y.ensures c.if-special-2.false)
    c.if-z.true

pub returns-else-z : goal.returns-else-z
unfolding of_bits
returns-else-z c =
    let a = c.args in
    let x = c.special in
    let y = c.special-else-special in
    let z = c.special-then-not-all_normal in
    infinite_addend binary64 a.x a.y a.z
    (told a.x c.well_formed.0.1 x.result _ x.ensures c.if-special.false)
    (told a.y c.well_formed.1.0.1 y.result _ y.ensures c.if-special-2.false)
    (told a.z c.well_formed.1.1.0.1 z.result _ z.ensures c.if-special-3.true)
    c.if-z.false

pub finite-requires : goal.finite-requires
finite-requires c =
    let a = c.args in
    elim c.if-not-all_normal.branch [
      | then-not-all_normal+else-special+else-special-2+else-special-3 w ↦ (
        sym w.special.ensures ∙ w.if-special.false,
        sym w.special-else-special.ensures ∙ w.if-special-2.false,
        sym w.special-then-not-all_normal.ensures ∙ w.if-special-3.false,
      )
      | else-not-all_normal w ↦
          let n =
          all_true (is_normal (to_bits binary64 a.x)) (is_normal (to_bits binary64 a.y)) (is_normal (to_bits binary64 a.z))
          (sym c.all_normal.ensures ∙ w.if-not-all_normal.false) in (
            normal_told a.x c.well_formed.0.1 n.0,
            normal_told a.y c.well_formed.1.0.1 n.1,
            normal_told a.z c.well_formed.1.1.0.1 n.2,
          )
    ]

pub returns : goal.returns
returns c =
    let a = c.args in
    c.finite.ensures
    ∙ ap₂ (λ (u v : Float). fma_of binary64 u v (of_bits binary64 (to_bits binary64 a.z)))
    (of_bits-to_bits binary64 a.x (held a.x c.well_formed.0.1)) (of_bits-to_bits binary64 a.y (held a.y c.well_formed.1.0.1))
    ∙ ap (λ (w : Float). fma_of binary64 a.x a.y w) (of_bits-to_bits binary64 a.z (held a.z c.well_formed.1.1.0.1))
