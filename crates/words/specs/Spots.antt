-- Parts of bytes that may be anything: numbers of eight bytes each, runs and stretches of text. What lies past the end is neither read nor written.
use Rattle.std.specs.Prelude.{ℕ, ◌*◌, ◌-◌, ◌/◌, Bool, cond, not, ◌&&◌, List, leb, ltb, eqb, length, get_or, take, drop}
use Rattle.loops.specs.Upto.{seek}
use Rattle.byte_lists.specs.Bytes.{word_put}

-- ---- numbers
-- the bytes go as far as the end of number k
abbrev pub has_number : List ℕ → ℕ → Bool
has_number l k = ltb k (length l / 8)

-- n as number k, unless the bytes end before it does
unfoldable pub number_put : List ℕ → ℕ → ℕ → List ℕ
number_put l k n = cond (has_number l k) (word_put l (8 * k) n) l

-- ---- text
-- the first place from `from` on whose byte does not belong to the run, or the end
unfoldable pub run_end : List ℕ → ℕ → (ℕ → Bool) → ℕ
run_end l from belongs = seek (λ k. not (belongs (get_or l k 0))) from (length l - from)

-- a word's bytes; spaces
abbrev pub in_word : ℕ → Bool
in_word c = ltb 32 c

abbrev pub is_space : ℕ → Bool
is_space c = eqb c 32

-- the bytes from i to e, or all of them where i or e is no place of theirs
unfoldable pub part_of : List ℕ → ℕ → ℕ → List ℕ
part_of l i e = cond (leb i e && leb e (length l)) (take (e - i) (drop i l)) l
