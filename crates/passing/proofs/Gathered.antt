-- Scans and folds over rows that depend only on which rows there are. A fold does if each row brings some values to an operation that is associative, commutative and idempotent.
-- Assumes nothing.
use mathlib.Core.Path.{◌≡◌, refl, sym, ap, ◌∙◌, subst}
use mathlib.Core.Logic.{inl, inr}
use mathlib.Core.List.{List, [], ◌∷◌, ◌++◌, foldl, foldl-append}
use mathlib.Core.List.Memᴰ
use mathlib.Core.List.{Memᴰ}
use mathlib.Core.Bool.{Bool, true, false, not, ◌&&◌, ◌||◌}
use lib.Dec.{T}
use Rattle.number.proofs.Fractions.{or_l, or_r, or_split}
use Rattle.number.proofs.Folds.{All, Within, Semilattice, fold_same}
use Rattle.rows.specs.Rows.{Row, fold, any, all}
use Rattle.rows.proofs.Within.{one_truth}

-- ---- scans

any_member : (p : Row → Bool) (w : Row) (m : List Row) → Memᴰ w m → T (p w) → T (any p m)
unfolding any
any_member p w [] k t = elim k [ ]
any_member p w (v ∷ m) (Memᴰ.head e) t = or_l (p v) (any p m) (subst (λ (u : Row). T (p u)) e t)
any_member p w (v ∷ m) (Memᴰ.tail k) t = or_r (p v) (any p m) (any_member p w m k t)

any_within : (p : Row → Bool) (l m : List Row) → Within l m → T (any p l) → T (any p m)
unfolding any
any_within p [] m h t = absurd t
any_within p (w ∷ l) m h t = elim (or_split (p w) (any p l) t) [
  | inl u ↦ any_member p w m (h w (Memᴰ.head refl)) u
  | inr u ↦ any_within p l m (λ x k. h x (Memᴰ.tail k)) u
]

pub any_same : (p : Row → Bool) (l m : List Row) → Within l m → Within m l → any p l ≡ any p m
any_same p l m h k = one_truth (any p l) (any p m) (any_within p l m h) (any_within p m l k)

-- all have p where none lacks it
none_lacks : (p : Row → Bool) (l : List Row) → all p l ≡ not (any (λ w. not (p w)) l)
unfolding all any
none_lacks p [] = refl
none_lacks p (w ∷ l) = go (p w) (none_lacks p l)
  where
    go : (b : Bool) → all p l ≡ not (any (λ v. not (p v)) l) → (b && all p l) ≡ not (not b || any (λ v. not (p v)) l)
    go true h = h
    go false h = refl

pub all_same : (p : Row → Bool) (l m : List Row) → Within l m → Within m l → all p l ≡ all p m
all_same p l m h k = none_lacks p l ∙ ap not (any_same (λ w. not (p w)) l m h k) ∙ sym (none_lacks p m)

-- ---- folds

-- what every row brings, in the order of the rows
abbrev gathered : {A : Type 0} → (Row → List A) → List Row → List A
gathered g [] = []
gathered g (w ∷ l) = g w ++ gathered g l

all_append : {A : Type 0} (P : A → Type 0) (l m : List A) → All P l → All P m → All P (l ++ m)
all_append P [] m h k = k
all_append P (x ∷ l) m h k = (h.0, all_append P l m h.1 k)

gathered_held : {A : Type 0} (P : A → Type 0) (g : Row → List A) → ((w : Row) → All P (g w)) → (l : List Row) → All P (gathered g l)
gathered_held P g h [] = tt
gathered_held P g h (w ∷ l) = all_append P (g w) (gathered g l) (h w) (gathered_held P g h l)

gathered_member : {A : Type 0} (g : Row → List A) (w : Row) (m : List Row) → Memᴰ w m → Within (g w) (gathered g m)
gathered_member g w [] t x k = elim t [ ]
gathered_member g w (v ∷ m) (Memᴰ.head e) x k = Memᴰ.append_left (gathered g m) (subst (λ (u : Row). Memᴰ x (g u)) e k)
gathered_member g w (v ∷ m) (Memᴰ.tail t) x k = Memᴰ.append_right (g v) (gathered_member g w m t x k)

gathered_within : {A : Type 0} (g : Row → List A) (l m : List Row) → Within l m → Within (gathered g l) (gathered g m)
gathered_within g [] m h x k = absurd (Memᴰ.not-nil k)
gathered_within g (w ∷ l) m h x k = elim (Memᴰ.append_cases (g w) k) [
  | inl u ↦ gathered_member g w m (h w (Memᴰ.head refl)) x u
  | inr u ↦ gathered_within g l m (λ v t. h v (Memᴰ.tail t)) x u
]

-- `part` is a part of the state, to which each row brings the values g
module _ {S A : Type 0} (part : S → A) (op : A → A → A) (f : S → Row → S) (g : Row → List A) (step : (s : S) (w : Row) → part (f s w) ≡ foldl op (part s) (g w)) where
  fold_gathered : (s : S) (l : List Row) → part (fold f s l) ≡ foldl op (part s) (gathered g l)
  unfolding fold
  fold_gathered s [] = refl
  fold_gathered s (w ∷ l) = fold_gathered (f s w) l ∙ ap (λ (a : A). foldl op a (gathered g l)) (step s w) ∙ sym (foldl-append op (part s) (g w) (gathered g l))

  pub fold_rows : (P : A → Type 0) → Semilattice P op → ((w : Row) → All P (g w)) → (s : S) → P (part s)
      → (l m : List Row) → Within l m → Within m l → part (fold f s l) ≡ part (fold f s m)
  fold_rows P L held s start l m h k =
      fold_gathered s l
      ∙ fold_same P op L (part s) (gathered g l) (gathered g m) start (gathered_held P g held l) (gathered_held P g held m) (gathered_within g l m h) (gathered_within g m l k)
      ∙ sym (fold_gathered s m)

  -- what holds at the start, and is kept by every value that is brought, holds at the end
  pub fold_keeps : (P Q : A → Type 0) → ((x y : A) → P x → Q y → P (op x y)) → ((w : Row) → All Q (g w)) → (s : S) → P (part s) → (l : List Row) → P (part (fold f s l))
  fold_keeps P Q keeps held s start l = subst P (sym (fold_gathered s l)) (through (part s) (gathered g l) start (gathered_held Q g held l))
    where
      through : (a : A) (l : List A) → P a → All Q l → P (foldl op a l)
      through a [] p h = p
      through a (x ∷ l) p h = through (op a x) l (keeps a x p h.0) h.1
