-- m * 2 ^ k on the grid of 2 ^ -deep, shifted up by its leading zeros.
use mathlib.Core.Path.{◌≡◌, refl, sym, ap, ◌∙◌, subst}
use mathlib.Core.Logic.{inl, inr}
use Prim.Native.Nat.{ℕ, ◌+◌, ◌-◌, ◌*◌, ◌%◌, ◌^◌, ◌≤◌, ◌<◌}
use native.Mathlib.Nat.{lt_of_lt_of_le, zero-mul, zero-add, mod-eq_of_lt, add-mod_left}
use native.Mathlib.Omega.{arith}
use mathlib.Core.Bool.{Bool, true, false, not, cond}
use lib.Dec.{T, ltb, lit<}
use lib.Arith.{le→nltb}
use lib.Pow.{pow_pos, pow_mono}
use lib.Count.{count_leading_zeros}
use lib.Ieee.{inf, binary64, round, ones, hid, top, of_bits, nan_bits}
use lib.Ieee.Nearest.{closest}
use lib.Ieee.Bits.{nan_bits_above}
use Rattle.rounding.specs.Packing.{deep}
use Rattle.rounding.proofs.Powers.{three_powers}
use Rattle.rounding.proofs.Leading.{lined_up}
use Rattle.rounding.proofs.Pack.{Normal, packed, overflowed, kept_under}

-- ---- no pattern up to an infinity's is a NaN's
pub no_nan : (b : ℕ) → b ≤ 0x7ff0_0000_0000_0000 → T (not (nan_bits binary64 b))
no_nan b h =
    subst (λ (t : Bool). T (not t)) (sym (nan_bits_above binary64 b))
    (le→nltb (ones binary64 * hid binary64) (b % top binary64) (subst (λ (x : ℕ). x ≤ 0x7ff0_0000_0000_0000) (sym (mod-eq_of_lt (small b h))) h))
  where
    small : (b : ℕ) → b ≤ 0x7ff0_0000_0000_0000 → b < 0x8000_0000_0000_0000
    small b h = omega arith

pub no_nan_negative : (b : ℕ) → b ≤ 0x7ff0_0000_0000_0000 → T (not (nan_bits binary64 (0x8000_0000_0000_0000 + b)))
no_nan_negative b h =
    let same =
    nan_bits_above binary64 b
    ∙ ap (λ (x : ℕ). ltb (ones binary64 * hid binary64) x) (sym (add-mod_left (top binary64) b))
    ∙ sym (nan_bits_above binary64 (0x8000_0000_0000_0000 + b)) in
    subst (λ (t : Bool). T (not t)) same (no_nan b h)

-- ---- the value
pub deep_is : deep ≡ 2400
unfolding deep
deep_is = refl

module _ (m k lz : ℕ) (lo : 2 ^ 63 ≤ m * 2 ^ lz) (hi : m * 2 ^ lz < 2 ^ 64) where
  pub normal : (d : ℕ) → k ≡ 1315 + lz + d → Normal binary64 (m * 2 ^ k) (2 ^ deep) (m * 2 ^ lz) 11 d
  normal d e = record {
    den_pos = pow_pos deep;
    value = three_powers m k 1074 11 lz deep d (omega (arith, deep_is));
    under = hi;
    full = inr lo;
  }

  pub subnormal : (sh : ℕ) → k + sh ≡ 1326 + lz → 11 < sh → Normal binary64 (m * 2 ^ k) (2 ^ deep) (m * 2 ^ lz) sh 0
  subnormal sh e h = record {
    den_pos = pow_pos deep;
    value = three_powers m k 1074 sh lz deep 0 (omega (arith, deep_is));
    under = lt_of_lt_of_le hi (pow_mono {i = 64} {j = 53 + sh} (omega arith));
    full = inl refl;
  }

pub nothing : (k : ℕ) → Normal binary64 (0 * 2 ^ k) (2 ^ deep) 0 11 0
nothing k = record {
  den_pos = pow_pos deep;
  value = ap (λ (x : ℕ). x * 2 ^ 1074 * 2 ^ 11) (zero-mul (2 ^ k)) ∙ sym (zero-mul (2 ^ deep * 2 ^ 0));
  under = pow_pos 64;
  full = inl refl;
}

infinite : (neg : Bool) → of_bits binary64 (cond neg 0x8000_0000_0000_0000 0 + 0x7ff0_0000_0000_0000) ≡ inf neg
unfolding of_bits
infinite true = refl
infinite false = refl

-- ---- the three ways that the code of `rounded` goes
module _ (neg : Bool) (m k : ℕ) (M : m < 2 ^ 64) (Z : m ≡ 0 → ⊥) where
  abbrev lz : ℕ
  lz = count_leading_zeros 64 m

  up_to_63 : (2 ^ 63 ≤ m * 2 ^ lz) × (m * 2 ^ lz < 2 ^ 64)
  up_to_63 = subst (λ (z : ℕ). (2 ^ 63 ≤ m * 2 ^ z) × (m * 2 ^ z < 2 ^ 64)) (omega arith) (lined_up 63 m (lit< tt) (omega arith) M)

  shifted : m * 2 ^ lz % 2 ^ 64 ≡ m * 2 ^ lz
  shifted = mod-eq_of_lt up_to_63.1

  pub few : (sh : ℕ) → 10 < sh → closest (m * 2 ^ lz % 2 ^ 64) (2 ^ sh) ≤ 2 ^ 53
  few sh h = rw shifted (kept_under 53 (m * 2 ^ lz) sh (lt_of_lt_of_le up_to_63.1 (pow_mono {i = 64} {j = 53 + sh} (omega arith))))

  pub code_past : 1315 + lz ≤ k → 2045 < k - (1315 + lz) → of_bits binary64 (cond neg 0x8000_0000_0000_0000 0 + 0x7ff0_0000_0000_0000) ≡ round binary64 neg (m * 2 ^ k) (2 ^ deep)
  code_past h g =
      let w = up_to_63 in
      let d = k - (1315 + lz) in
      infinite neg ∙ sym (overflowed binary64 neg (m * 2 ^ k) (2 ^ deep) (m * 2 ^ lz) 11 d (normal m k lz w.0 w.1 d (omega arith)) w.0 (omega arith))

  pub code_normal : 1315 + lz ≤ k → k - (1315 + lz) ≤ 2045
      → of_bits binary64 (cond neg 0x8000_0000_0000_0000 0 + ((k - (1315 + lz)) * 0x10_0000_0000_0000 + closest (m * 2 ^ lz % 2 ^ 64) (2 ^ 11)))
      ≡ round binary64 neg (m * 2 ^ k) (2 ^ deep)
  code_normal h g =
      let w = up_to_63 in
      let d = k - (1315 + lz) in
      ap (λ (x : ℕ). of_bits binary64 (cond neg 0x8000_0000_0000_0000 0 + (d * 0x10_0000_0000_0000 + closest x (2 ^ 11)))) shifted
      ∙ packed binary64 neg (m * 2 ^ k) (2 ^ deep) (m * 2 ^ lz) 11 d (normal m k lz w.0 w.1 d (omega arith)) (omega arith)

  pub code_small : k < 1315 + lz → of_bits binary64 (cond neg 0x8000_0000_0000_0000 0 + closest (m * 2 ^ lz % 2 ^ 64) (2 ^ (1315 + lz - k + 11)))
      ≡ round binary64 neg (m * 2 ^ k) (2 ^ deep)
  code_small h =
      let w = up_to_63 in
      let sh = 1315 + lz - k + 11 in
      ap (λ (x : ℕ). of_bits binary64 (cond neg 0x8000_0000_0000_0000 0 + closest x (2 ^ sh))) shifted
      ∙ ap (λ (x : ℕ). of_bits binary64 (cond neg 0x8000_0000_0000_0000 0 + x)) (sym (zero-add (closest (m * 2 ^ lz) (2 ^ sh))))
      ∙ packed binary64 neg (m * 2 ^ k) (2 ^ deep) (m * 2 ^ lz) sh 0 (subnormal m k lz w.0 w.1 sh (omega arith) (omega arith)) (lit< tt)
