-- A pattern stands for an infinity or a NaN exactly where its exponent is all ones, in any format.
use Rattle.std.proofs.Common.{ℕ, zero, suc, ◌+◌, ◌/◌, ◌%◌, ◌<◌, ◌^◌, ◌≡◌, refl, sym, ap, ◌∙◌, Bool, true, false, not, cond, ◌&&◌, List, arith, ne_eqb, eq-eqb, eqb-true, T, eqb, leb, length}
use Rattle.std.specs.Float.{nan, inf, Format, binary64}
use Rattle.std.specs.Float.Ieee.{prec, low, odd, hid, ones, of_fields, of_bits, nan_bits}
use borrow.Author.Tests.{eqb-false}
use Rattle.std.specs.Float.Ieee.Scale.{finite}
use Rattle.loops.specs.Entries.{every_entry}
use Rattle.loops.proofs.Counting.{and_false, entry_at}
use Rattle.number.proofs.Order.{holds}
use Rattle.number.proofs.Patterns.{number_bits, not_nan_bits}
use Rattle.byte_lists.specs.Bytes.{pattern_at, doubles_of}
use Rattle.byte_lists.proofs.Fronts.{length_doubles, pattern_within}

odd_finite : (d : ℕ) (s : Bool) (q k l : ℕ) → finite (odd d s q k l) ≡ true
unfolding odd
odd_finite d s zero k l = refl
odd_finite d s (suc q) k l = refl

fields_finite : (f : Format) (s : Bool) (x t : ℕ) → finite (of_fields f s x t) ≡ not (eqb x (ones f))
unfolding of_fields
fields_finite f s zero t = odd_finite (prec f) s t 0 (low f) ∙ ap not (sym (ne_eqb 0 (ones f) (λ e. omega arith)))
fields_finite f s (suc x) t = go (eqb (suc x) (ones f)) (eqb t 0)
  where
    go : (b z : Bool) → finite (cond b (cond z (inf s) nan) (odd (prec f) s (hid f + t) x (low f))) ≡ not b
    go true true = refl
    go true false = refl
    go false z = odd_finite (prec f) s (hid f + t) x (low f)

bits_finite : (w : ℕ) → finite (of_bits binary64 w) ≡ not (eqb (w % 2 ^ 63 / 2 ^ 52) 2047)
unfolding of_bits
bits_finite w = fields_finite binary64 (leb (2 ^ 63) w) (w % 2 ^ 63 / 2 ^ 52) (w % 2 ^ 52)

pub carries : (w : ℕ) → (w % 2 ^ 63 + 2 ^ 52) / 2 ^ 63 ≡ cond (finite (of_bits binary64 w)) 0 1
carries w = rw (bits_finite w) (go (eqb (w % 2 ^ 63 / 2 ^ 52) 2047) refl)
  where
    go : (b : Bool) → eqb (w % 2 ^ 63 / 2 ^ 52) 2047 ≡ b → (w % 2 ^ 63 + 2 ^ 52) / 2 ^ 63 ≡ cond (not b) 0 1
    go true e = let q = eqb-true (w % 2 ^ 63 / 2 ^ 52) 2047 e in omega (arith, q)
    go false e = let q = eqb-false (w % 2 ^ 63 / 2 ^ 52) 2047 e in omega (arith, q)

-- nothing but 0 was counted so far, and now
pub none_more : (p : Bool) (n m : ℕ) → m ≡ n + cond p 0 1 → eqb m 0 ≡ (eqb n 0 && p)
none_more true n m e = go (eqb n 0) refl
  where
    go : (b : Bool) → eqb n 0 ≡ b → eqb m 0 ≡ (b && true)
    go true h = eq-eqb m 0 (omega (arith, e, eqb-true n 0 h))
    go false h = ne_eqb m 0 (λ z. eqb-false n 0 h (omega (arith, e)))
none_more false n m e = ne_eqb m 0 (λ z. omega (arith, e)) ∙ sym (and_false (eqb n 0))

-- the pattern of an entry, where all are finite, is no NaN's
pub no_nan : (b : List ℕ) (k w : ℕ) → k < length b / 8 → every_entry finite (doubles_of b) ≡ true → w ≡ pattern_at b k → T (not (nan_bits binary64 w))
no_nan b k w h f e =
    let finite-here = entry_at finite (doubles_of b) k f (omega (arith, length_doubles b)) in
    not_nan_bits binary64 w (number_bits binary64 w (holds (ap finite (pattern_within b k w h e) ∙ finite-here)))
