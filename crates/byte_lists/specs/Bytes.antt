-- Doubles as eight bytes each, low byte first.
use Rattle.std.specs.Prelude.{ℕ, ◌+◌, ◌*◌, ◌/◌, ◌%◌, ◌^◌, Bool, cond, List, eqb, ltb, length, get_or, set, Float}
use Rattle.std.specs.Float.{binary64}
use Rattle.std.specs.Float.Ieee.{of_bits, to_bits}
use Rattle.loops.specs.Upto.{table}

-- 10: "a byte list, output included, of a length not divisible by eight"
abbrev pub in_eights : List ℕ → Bool
in_eights l = eqb (length l % 8) 0

-- ---- read
-- four bytes from an index on
abbrev pub four_at : List ℕ → ℕ → ℕ
four_at l i = get_or l i 0 + 2 ^ 8 * get_or l (i + 1) 0 + 2 ^ 16 * get_or l (i + 2) 0 + 2 ^ 24 * get_or l (i + 3) 0

abbrev pub word_at : List ℕ → ℕ → ℕ
word_at l i = four_at l i + 2 ^ 32 * four_at l (i + 4)

-- the pattern at a place, 0 where there is none
unfoldable pub pattern_at : List ℕ → ℕ → ℕ
pattern_at l k = cond (ltb k (length l / 8)) (word_at l (8 * k)) 0

abbrev pub double_at : List ℕ → ℕ → Float
double_at l k = of_bits binary64 (word_at l (8 * k))

unfoldable pub doubles_of : List ℕ → List Float
doubles_of l = table (double_at l) (length l / 8)

-- ---- written
-- byte i of the doubles f 0, f 1, ..
unfoldable pub byte_of : (ℕ → Float) → ℕ → ℕ
byte_of f i = to_bits binary64 (f (i / 8)) / 2 ^ (8 * (i % 8)) % 256

-- the low four bytes of w from an index on
abbrev pub four_put : List ℕ → ℕ → ℕ → List ℕ
four_put l i w = set (set (set (set l i (w % 256)) (i + 1) (w / 2 ^ 8 % 256)) (i + 2) (w / 2 ^ 16 % 256)) (i + 3) (w / 2 ^ 24 % 256)

abbrev pub word_put : List ℕ → ℕ → ℕ → List ℕ
word_put l i w = four_put (four_put l i w) (i + 4) (w / 2 ^ 32)

-- a double at a place, where there is one
unfoldable pub double_put : List ℕ → ℕ → Float → List ℕ
double_put l k x = cond (ltb k (length l / 8)) (word_put l (8 * k) (to_bits binary64 x)) l
