-- Eight bytes put in one after the other are the eight bytes put in at once.
use Rattle.std.proofs.Common.{ℕ, ◌+◌, ◌≤◌, ◌≡◌, List, ◌++◌, length, take, drop, le_refl, sym, refl, ap, ap₂, ◌∙◌, arith}
use lib.ListN.{set}
use lib.Seq.{sets, sets-eq, take_all}
use borrow.Rule.Slice.PartMut.{put_mid}
use Rattle.std.proofs.lemmas.Slice.{put_mid-paste}
use Rattle.std.specs.Int.{w64, to_le_bytes}
use Rattle.byte_lists.specs.Bytes.{word_put}

-- one byte, wherever its place and value are said otherwise
put : {l m : List ℕ} {i j v u : ℕ} → l ≡ m → i ≡ j → v ≡ u → set l i v ≡ set m j u
put {l} {m} {i} {j} {v} {u} e h g = ap (λ x. set x i v) e ∙ ap₂ (set m) h g

pub word_put_is : (l : List ℕ) (i w : ℕ) → word_put l i w ≡ sets l i (to_le_bytes w64 w)
word_put_is l i w =
    put (put (put (put (put (put (put (put refl (omega arith) (omega arith)) (omega arith) (omega arith)) (omega arith) (omega arith)) (omega arith) (omega arith))
    (omega arith) (omega arith)) (omega arith) (omega arith)) (omega arith) (omega arith)) (omega arith) (omega arith)

-- and so is what a write to a part of as many bytes leaves
pub part_put : (i k : ℕ) (l new bytes : List ℕ) → new ≡ bytes → length bytes ≡ k → i + k ≤ length l → put_mid i k l new ≡ sets l i bytes
part_put i k l new bytes e q h =
    put_mid-paste i k l new bytes (length bytes) e q refl
    ∙ ap (λ t. take i l ++ t ++ drop (i + length bytes) l) (take_all (length bytes) bytes (le_refl _))
    ∙ sym (sets-eq bytes l i (omega (arith, q)))
