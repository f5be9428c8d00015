-- Laws of the pass of t to s: the interval that is carried from a time to the next, and the counts of one time more.
use Rattle.std.proofs.Common.{◌≡◌, ℕ, ◌+◌, ◌-◌, ◌^◌, ◌<◌, ◌≤◌, Bool, true, false, not, T, ltb, List, length, sym, refl, ap, ◌∙◌, ⊎_elim, add-zero, eq-or-lt_of_le, arith, ltb-false, ltb-true, le-ltb, lt-ltb, ne_eqb, Float}
use Rattle.std.specs.Float.Ieee.{lt, le}
use borrow.Author.Tests.{not-false, not-true}
use lib.Ieee.Bits.{is_true}
use Rattle.number.proofs.Order.{holds, fails, lt_le_transitive, le_lt_transitive}
use Rattle.loops.specs.Upto.{count, at}
use Rattle.loops.proofs.Counting.{and_left, and_right, count_le, count_more, count_stretch, first_is, first_before, first_le}
use Rattle.pieces.specs.Pieces.{station_inside, station_in}
use Rattle.following.specs.Places.{interval_of, is_before, is_inside, is_past, station_at, counts_of}
use Rattle.following.specs.Following.{last_entry, Standing, stays, AllInside, Bounded, one_more, more_inside, tallied}
use Rattle.following.specs.declared.interval.Cursor.{Cursor}
use Rattle.following.specs.declared.pass.Counts.{Counts}

pub interval_le : (t : List Float) (x : Float) → interval_of t x ≤ length t - 1
unfolding interval_of
interval_le t x = first_le _ (length t - 1)

-- every interval before that of x ends below x
pub ends_below : (t : List Float) (x : Float) (i : ℕ) → i < interval_of t x → lt (at t (i + 1)) x ≡ true
unfolding interval_of
ends_below t x i h = not-false _ (first_before (λ k. not (lt (at t (k + 1)) x)) (length t - 1) i h)

pub inside_within : (t : List Float) (x : Float) → is_inside t x ≡ true → interval_of t x < length t - 1
unfolding is_inside
inside_within t x h = ltb-true (interval_of t x) (length t - 1) (and_right (not (is_before t x)) (ltb (interval_of t x) (length t - 1)) h)

-- one place short of the last, by the length of the list
pub next_within : (k n : ℕ) → ltb (k + 1) n ≡ ltb k (n - 1)
next_within k n = go (ltb (k + 1) n) refl
  where
    go : (b : Bool) → ltb (k + 1) n ≡ b → b ≡ ltb k (n - 1)
    go true e = let l = ltb-true (k + 1) n e in sym (lt-ltb k (n - 1) (omega arith))
    go false e = let l = ltb-false (k + 1) n e in sym (le-ltb k (n - 1) (omega arith))

-- and below any time that is not below x
pub still_below : (x y z : Float) → lt x y ≡ true → le y z ≡ true → lt x z ≡ true
still_below x y z p q = is_true _ (lt_le_transitive x y z (holds p) (holds q))

-- the station that the cursor's piece gives
pub station_held : (s a t : List Float) (w : Cursor) (x : Float) → w.interval ≡ interval_of t x → Standing s a t w → is_inside t x ≡ true
    → station_inside w.piece x ≡ station_at s a t x
unfolding station_at station_in
station_held s a t w x k h i = rw (h.held, i, ← k)

pub inside_not_before : (t : List Float) (x : Float) → is_inside t x ≡ true → is_before t x ≡ false
unfolding is_inside
inside_not_before t x h = not-true (is_before t x) (and_left (not (is_before t x)) (ltb (interval_of t x) (length t - 1)) h)

inside_not_past : (t : List Float) (x : Float) → is_inside t x ≡ true → is_past t x ≡ false
unfolding is_past
inside_not_past t x h = rw (h, inside_not_before t x h)

not_below_too : (y x z : Float) → le y x ≡ true → lt y z ≡ false → lt x z ≡ false
not_below_too y x z h e = go (lt x z) (λ l. fails e (le_lt_transitive y x z (holds h) l))
  where
    go : (b : Bool) → (T b → ⊥) → b ≡ false
    go true n = absurd (n tt)
    go false n = refl

-- a time that stays has the cursor's interval, and is inside with the cursor's own time
module _
    (s a t : List Float)
    (w : Cursor)
    (x : Float)
    (h : Standing s a t w)
    (k : w.interval ≡ interval_of t w.time)
    (i : is_inside t w.time ≡ true)
    (y : stays w x ≡ true) where
  not_below : le w.time x ≡ true
  not_below = and_left (le w.time x) (not (lt w.end x)) y

  not_past : not (lt (at t (w.interval + 1)) x) ≡ true
  not_past = rw (← h.ends) (and_right (le w.time x) (not (lt w.end x)) y)

  pub same_interval : w.interval ≡ interval_of t x
  unfolding interval_of
  same_interval = sym (first_is _ _ _ h.within (λ j l. ap not (still_below _ _ _ (h.behind j l) not_below)) (λ l. not_past))

  pub stays_inside : is_inside t x ≡ true
  unfolding is_inside is_before
  stays_inside =
      let l = inside_within t w.time i in
      let b = not_below_too w.time x (at t 0) not_below (inside_not_before t w.time i) in
      rw (b, ← same_interval, lt-ltb w.interval (length t - 1) (omega arith))

  -- the entry of such a time, which is time k of x
  pub stays_entry : (y : Float) (f : ℕ → Float) (k : ℕ) → x ≡ f k → y ≡ station_inside w.piece x → (is_inside t (f k) ≡ true) × (y ≡ station_at s a t (f k))
  stays_entry y f k e g =
      (rw e at stays_inside, rw e at (g ∙ station_held s a t w x same_interval h stays_inside))

pub inside_more : (t : List Float) (f : ℕ → Float) (start j : ℕ) → AllInside t f start j → is_inside t (f j) ≡ true → AllInside t f start (j + 1)
inside_more t f start j h i k l g =
    let m : k ≤ j = omega arith in
    ⊎_elim (λ e. rw e i) (h k l) (eq-or-lt_of_le m)

pub inside_first : (t : List Float) (f : ℕ → Float) (j r : ℕ) → is_inside t (f j) ≡ true → AllInside t f (j + 1) r → AllInside t f j r
inside_first t f j r i h k l g = ⊎_elim (λ e. rw (← e) i) (λ m. h k (omega arith) g) (eq-or-lt_of_le l)

pub counts_none : (t : List Float) (f : ℕ → Float) → record { before = 0; inside = 0; past = 0; written = 0 } ≡ counts_of t f 0 0
unfolding counts_of count
counts_none t f = refl

pub counts_turn : (t : List Float) (f : ℕ → Float) (n : ℕ) (c : Counts) → c ≡ counts_of t f n n → tallied c t (f n) ≡ counts_of t f (n + 1) (n + 1)
unfolding counts_of tallied one_more
counts_turn t f n c e = rw e (simp count_more)

counts_stretch : (t : List Float) (f : ℕ → Float) (n m : ℕ) (c : Counts) → c ≡ counts_of t f n n → AllInside t f n (n + m) → more_inside c m ≡ counts_of t f (n + m) (n + m)
unfolding counts_of more_inside
counts_stretch t f n m c e h =
    rw (
      e,
      count_stretch (λ j. is_before t (f j)) false n m (λ k l g. inside_not_before t (f k) (h k l g)),
      count_stretch (λ j. is_inside t (f j)) true n m h,
      count_stretch (λ j. is_past t (f j)) false n m (λ k l g. inside_not_past t (f k) (h k l g)),
    )
    (simp add-zero)

-- the same, up to r
pub counts_up_to : (t : List Float) (f : ℕ → Float) (n r : ℕ) (c d : Counts) → c ≡ counts_of t f n n → n ≤ r → AllInside t f n r → d ≡ more_inside c (r - n) → d ≡ counts_of t f r r
counts_up_to t f n r c d e l h g =
    let q : n + (r - n) ≡ r = omega arith in
    g ∙ counts_stretch t f n (r - n) c e (λ k a b. h k a (omega arith)) ∙ ap (λ (m : ℕ). counts_of t f m m) q

pub counts_written : (t : List Float) (f : ℕ → Float) (n : ℕ) (c : Counts) → c ≡ counts_of t f n n → c.written ≡ n
unfolding counts_of
counts_written t f n c e = rw e

pub counts_bounded : (t : List Float) (f : ℕ → Float) (n : ℕ) (c : Counts) → c ≡ counts_of t f n n → n ≤ 2 ^ 61 → Bounded c
unfolding counts_of
counts_bounded t f n c e h = rw e (record { few_before = count_le _ n; few_inside = count_le _ n; few_past = count_le _ n; few = h })

-- the last of r entries, where there is one
pub last_entry_lem : (f : ℕ → Float) (r : ℕ) (v : Float) → 0 < r → v ≡ f (r - 1) → v ≡ last_entry f r
last_entry_lem f r v h e = rw (ne_eqb r 0 (λ z. omega arith)) e
