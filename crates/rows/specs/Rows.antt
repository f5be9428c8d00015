-- A list of doubles in threes. 01: "Rows come as a lent list of doubles in threes: coef_curr, coef_prev, rhs."
use Rattle.std.specs.Prelude.{◌*◌, ◌%◌, Bool, true, false, ◌&&◌, ◌||◌, List, [], ◌∷◌, eqb, leb, length, Float}
use Rattle.refusals.specs.Most.{most_rows}

pub record Row : Type 0 where
  pub curr : Float
  pub prev : Float
  pub rhs : Float

abbrev pub row : Float → Float → Float → Row
row a b c = record { curr = a; prev = b; rhs = c }

-- what is left over at the end, one double or two, is no row
unfoldable pub rows_of : List Float → List Row
rows_of [] = []
rows_of (a ∷ []) = []
rows_of (a ∷ b ∷ []) = []
rows_of (a ∷ b ∷ c ∷ l) = row a b c ∷ rows_of l

-- refusal 1: "list length no multiple of 3, or over 768"
unfoldable pub whole_rows : List Float → Bool
whole_rows l = eqb (length l % 3) 0 && leb (length l) (3 * most_rows)

-- the state after each row in turn; rows, or what was made of them
unfoldable pub fold : {S A : Type 0} → (S → A → S) → S → List A → S
fold f s [] = s
fold f s (r ∷ rs) = fold f (f s r) rs

-- some row has p
unfoldable pub any : {A : Type 0} → (A → Bool) → List A → Bool
any p [] = false
any p (r ∷ rs) = p r || any p rs

-- every row has p
unfoldable pub all : {A : Type 0} → (A → Bool) → List A → Bool
all p [] = true
all p (r ∷ rs) = p r && all p rs
