-- One double more, written as eight bytes after those before it.
use Prim.Native.Nat.{ℕ, ◌+◌, ◌*◌, ◌/◌, ◌%◌, ◌^◌, ◌≤◌, ◌<◌}
use mathlib.Core.Path.{◌≡◌, sym, ap, ◌∙◌}
use mathlib.Core.List.{List}
use native.Mathlib.Omega.{arith}
use lib.ListN.{length, set}
use lib.Ieee.{Float, binary64, to_bits}
use Rattle.loops.specs.Upto.{filled}
use Rattle.loops.proofs.Filling.{fill_turn, fill_same, length_filled}
use borrow.Author.Tests.{lt-ltb}
use Rattle.byte_lists.specs.Bytes.{byte_of, four_put, word_put, double_put}

module _ (f : ℕ → ℕ) (old : List ℕ) where
  turn : (i j : ℕ) (l : List ℕ) (v : ℕ) → i < length old → j ≡ i + 1 → l ≡ filled f i old → v ≡ f i → set l i v ≡ filled f j old
  turn i j l v h e g b = fill_turn f i old l v h g b ∙ ap (λ (n : ℕ). filled f n old) (sym e)

  fill_four : (i w : ℕ) (l : List ℕ) → i + 4 ≤ length old → l ≡ filled f i old → w % 256 ≡ f i → w / 2 ^ 8 % 256 ≡ f (i + 1) → w / 2 ^ 16 % 256 ≡ f (i + 2)
      → w / 2 ^ 24 % 256 ≡ f (i + 3) → four_put l i w ≡ filled f (i + 4) old
  fill_four i w l h e b0 b1 b2 b3 =
      turn (i + 3) (i + 4) _ _ (omega arith) (omega arith)
      (turn (i + 2) (i + 3) _ _ (omega arith) (omega arith)
      (turn (i + 1) (i + 2) _ _ (omega arith) (omega arith)
      (turn i (i + 1) l _ (omega arith) (omega arith) e b0) b1) b2) b3

-- byte j of double k
byte_at : (f : ℕ → Float) (k j i : ℕ) → j < 8 → i ≡ 8 * k + j → to_bits binary64 (f k) / 2 ^ (8 * j) % 256 ≡ byte_of f i
unfolding byte_of
byte_at f k j i h e =
    let q : i / 8 ≡ k = omega arith in
    let m : i % 8 ≡ j = omega arith in
    rw (q, m)

pub fill_word : (f : ℕ → Float) (k w : ℕ) (old l : List ℕ) → 8 * k + 8 ≤ length old → l ≡ filled (byte_of f) (8 * k) old → w ≡ to_bits binary64 (f k)
    → word_put l (8 * k) w ≡ filled (byte_of f) (8 * (k + 1)) old
fill_word f k w old l h e b =
    let byte : (j i v : ℕ) → j < 8 → i ≡ 8 * k + j → v ≡ w / 2 ^ (8 * j) % 256 → v ≡ byte_of f i
    = λ j i v d g u. u ∙ ap (λ (p : ℕ). p / 2 ^ (8 * j) % 256) b ∙ byte_at f k j i d g in
    let low = fill_four (byte_of f) old (8 * k) w l (omega arith) e
    (byte 0 _ _ (omega arith) (omega arith) (omega arith))
    (byte 1 _ _ (omega arith) (omega arith) (omega arith))
    (byte 2 _ _ (omega arith) (omega arith) (omega arith))
    (byte 3 _ _ (omega arith) (omega arith) (omega arith)) in
    fill_four (byte_of f) old (8 * k + 4) (w / 2 ^ 32) _ (omega arith) low
    (byte 4 _ _ (omega arith) (omega arith) (omega arith))
    (byte 5 _ _ (omega arith) (omega arith) (omega arith))
    (byte 6 _ _ (omega arith) (omega arith) (omega arith))
    (byte 7 _ _ (omega arith) (omega arith) (omega arith))
    ∙ ap (λ (n : ℕ). filled (byte_of f) n old) (omega arith)

pub fill_put : (f : ℕ → Float) (k : ℕ) (x : Float) (old l new : List ℕ) → k < length old / 8 → l ≡ filled (byte_of f) (8 * k) old → x ≡ f k → new ≡ double_put l k x
    → new ≡ filled (byte_of f) (8 * (k + 1)) old
unfolding double_put
fill_put f k x old l new h e v g =
    let same : length l ≡ length old = ap length e ∙ length_filled (byte_of f) (8 * k) old (omega arith) in
    rw (lt-ltb k (length l / 8) (omega arith)) at g ∙ fill_word f k (to_bits binary64 x) old l (omega arith) e (ap (to_bits binary64) v)

-- entries that are the same are written alike
pub bytes_same : (f g : ℕ → Float) (n : ℕ) (old : List ℕ) → ((k : ℕ) → k < n → f k ≡ g k) → filled (byte_of f) (8 * n) old ≡ filled (byte_of g) (8 * n) old
unfolding byte_of
bytes_same f g n old h = fill_same _ _ (8 * n) old (λ i l. rw (h (i / 8) (omega arith)))
