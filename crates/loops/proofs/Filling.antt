-- One more turn of a loop that fills lent memory from the front.
use mathlib.Core.Path.{◌≡◌, refl, sym, ap, ◌∙◌}
use mathlib.Core.Logic.{⊎_elim}
use mathlib.Core.List.{List, [], ◌∷◌, ◌++◌}
use Prim.Native.Nat.{ℕ, zero, suc, ◌+◌, ◌-◌, ◌<◌, ◌≤◌}
use native.Mathlib.Numerals.{add-one}
use native.Mathlib.Nat.{eq-or-lt_of_le, le_of_suc-le-suc}
use native.Mathlib.Omega.{arith}
use lib.ListN.{length, get_or, set, drop, length-append, length-drop, length-set, get_or-append}
use lib.Seq.{drop-cons, set_at, append_snoc, drop-append-add, drop-drop, drop-set-lt, set-set, get_or_at}
use lib.Ieee.{Float, nan}
use Rattle.loops.specs.Upto.{table, filled, at}

pub length_table : {A : Type 0} (f : ℕ → A) (n : ℕ) → length (table f n) ≡ n
unfolding table
length_table f zero = refl
length_table f (suc n) = length-append (table f n) (f n ∷ []) ∙ rw (length_table f n, add-one)

pub fill_none : {A : Type 0} (f : ℕ → A) (old : List A) → filled f 0 old ≡ old
unfolding filled table
fill_none f old = refl

pub fill_more : {A : Type 0} (f : ℕ → A) (i : ℕ) (old : List A) → i < length old → set (filled f i old) i (f i) ≡ filled f (i + 1) old
unfolding filled table
fill_more f i old h =
    rw (add-one, drop-cons old i (f i) h, set_at (table f i) (get_or old i (f i)) (drop (suc i) old) (f i) i (length_table f i))
    (sym (append_snoc (table f i) (f i) (drop (suc i) old)))

pub fill_turn : {A : Type 0} (f : ℕ → A) (i : ℕ) (old l : List A) (v : A) → i < length old → l ≡ filled f i old → v ≡ f i → set l i v ≡ filled f (i + 1) old
fill_turn f i old l v h e g = rw (e, g) (fill_more f i old h)

-- what stood in a place that is filled is of no account
pub fill_over : {A : Type 0} (f : ℕ → A) (n : ℕ) (old : List A) (i : ℕ) (v : A) → i < n → filled f n (set old i v) ≡ filled f n old
unfolding filled
fill_over f n old i v h = rw (drop-set-lt n old i v h)

-- a first store before the loop
pub fill_first : {A : Type 0} (f : ℕ → A) (old : List A) (v : A) → 0 < length old → v ≡ f 0 → set old 0 v ≡ filled f 1 (set old 0 v)
fill_first f old v h e =
    sym (set-set old 0 v v) ∙ fill_turn f 0 (set old 0 v) (set old 0 v) v (simp length-set h) (sym (fill_none f (set old 0 v))) e

pub length_filled : {A : Type 0} (f : ℕ → A) (n : ℕ) (old : List A) → n ≤ length old → length (filled f n old) ≡ length old
unfolding filled
length_filled f n old h = simp (length-append, length_table, length-drop) (omega arith)

-- what is filled further need not have been filled before
pub fill_again : {A : Type 0} (f : ℕ → A) (n m : ℕ) (old : List A) → n ≤ m → filled f m (filled f n old) ≡ filled f m old
unfolding filled
fill_again f n m old h =
    let e : m ≡ length (table f n) + (m - n) = omega (arith, length_table f n) in
    let g : n + (m - n) ≡ m = omega arith in
    ap (λ l. table f m ++ l)
    (ap (λ (k : ℕ). drop k (table f n ++ drop n old)) e
    ∙ drop-append-add (table f n) (drop n old) (m - n)
    ∙ drop-drop (m - n) n old
    ∙ ap (λ (k : ℕ). drop k old) g)

pub fill_on : {A : Type 0} (f : ℕ → A) (n m : ℕ) (old l k : List A) → n ≤ m → l ≡ filled f n old → k ≡ filled f m l → k ≡ filled f m old
fill_on f n m old l k h e g = g ∙ ap (filled f m) e ∙ fill_again f n m old h

pub fill_stands : {A : Type 0} (f : ℕ → A) (n : ℕ) (old l : List A) → l ≡ filled f n old → l ≡ filled f n l
fill_stands f n old l e = e ∙ sym (fill_again f n n old (omega arith)) ∙ ap (filled f n) (sym e)

table_same : {A : Type 0} (f g : ℕ → A) (n : ℕ) → ((k : ℕ) → k < n → f k ≡ g k) → table f n ≡ table g n
unfolding table
table_same f g zero h = refl
table_same f g (suc n) h = rw (table_same f g n (λ k l. h k (omega arith)), h n (omega arith))

-- only the entries below n are filled in
pub fill_same : {A : Type 0} (f g : ℕ → A) (n : ℕ) (old : List A) → ((k : ℕ) → k < n → f k ≡ g k) → filled f n old ≡ filled g n old
unfolding filled
fill_same f g n old h = rw (table_same f g n h)

pub table_has : {A : Type 0} (f : ℕ → A) (n k : ℕ) (d : A) → k < n → get_or (table f n) k d ≡ f k
unfolding table
table_has f zero k d h = absurd (omega arith)
table_has f (suc n) k d h =
    ⊎_elim (λ e. get_or_at (table f n) (f n) [] d k (length_table f n ∙ sym e) ∙ ap f (sym e))
    (λ l. get_or-append (table f n) (f n ∷ []) d k (omega (arith, length_table f n)) ∙ table_has f n k d l)
    (eq-or-lt_of_le (le_of_suc-le-suc h))

pub table_at : (f : ℕ → Float) (n k : ℕ) → k < n → at (table f n) k ≡ f k
table_at f n k h = table_has f n k nan h

pub filled_at : (f : ℕ → Float) (n : ℕ) (old : List Float) (k : ℕ) → k < n → at (filled f n old) k ≡ f k
unfolding filled
filled_at f n old k h = get_or-append (table f n) (drop n old) nan k (omega (arith, length_table f n)) ∙ table_at f n k h
