-- What a call owes that returns its number.
use Prim.Native.Nat.{ℕ, ◌*◌}
use mathlib.Core.Path.{◌≡◌, sym, ◌∙◌}
use mathlib.Core.List.{List}
use lib.Ieee.{Float}
use Rattle.loops.specs.Upto.{filled}
use Rattle.refusals.proofs.Chains.{only_done}
use Rattle.byte_lists.specs.Bytes.{byte_of}
use Rattle.byte_lists.specs.Replied.{Replied}

pub replies : {m number : ℕ} {f : ℕ → Float} {n : ℕ} {old new : List ℕ} → m ≡ number → m ≡ 0 → new ≡ filled (byte_of f) (8 * n) old
    → Replied number f n old m new
replies {number = number} e z g = record { number_is = e; left = g ∙ sym (only_done number _ _ (sym e ∙ z)) }
