-- What holds of, or is made of, the numbers below n: the forms that a counting loop tests or fills.
use Rattle.std.specs.Prelude.{Bool, true, cond, ◌&&◌, List, [], ◌∷◌, ◌++◌, ℕ, zero, suc, ◌+◌, get_or, drop, Float}
use Rattle.std.specs.Float.{nan}

-- p holds of each k below n
unfoldable pub every : (ℕ → Bool) → ℕ → Bool
every p zero = true
every p (suc n) = every p n && p n

-- how many k below n have p
unfoldable pub count : (ℕ → Bool) → ℕ → ℕ
count p zero = 0
count p (suc n) = count p n + cond (p n) 1 0

-- the first k from `at` on that has p, among the next n; at + n where none has
unfoldable pub seek : (ℕ → Bool) → ℕ → ℕ → ℕ
seek p at zero = at
seek p at (suc n) = cond (p at) at (seek p (suc at) n)

-- the first k below n that has p, or n
unfoldable pub first : (ℕ → Bool) → ℕ → ℕ
first p n = seek p 0 n

-- f 0, f 1, .., f (n - 1)
unfoldable pub table : {A : Type 0} → (ℕ → A) → ℕ → List A
table f zero = []
table f (suc n) = table f n ++ (f n ∷ [])

-- the first n places of `old` hold f 0 .. f (n - 1), and the rest is as it was
unfoldable pub filled : {A : Type 0} → (ℕ → A) → ℕ → List A → List A
filled f n old = table f n ++ drop n old

-- the entry at k of a list of doubles
abbrev pub at : List Float → ℕ → Float
at x k = get_or x k nan
