-- One exact size has one nearest value only: a value that is `Nearest` is also `OnlyNearest`, so the statement of specs/Nearness admits no second answer.
use mathlib.Core.Path.{◌≡◌, sym, ap, ◌∙◌, subst}
use mathlib.Core.Logic.{⊎_elim}
use Prim.Native.Nat.{ℕ, suc, ◌+◌, ◌*◌, ◌%◌, ◌^◌, ◌≤◌, ◌<◌, compare, Ordering}
use native.Mathlib.Nat.{add_comm, le_trans, le_of_lt, lt_irrefl, not-le_of_lt, mul-le-mul, mul-lt-mul_of_pos_right, eq-or-lt_of_le}
use native.Mathlib.Omega.{arith}
use mathlib.Core.Bool.{Bool, cond}
use lib.Dec.{T}
use lib.IntN.{ℤ}
use lib.Ieee.{Float, nan, inf, fin, Format, low, fits, to_bits, of_bits, hid, ones, top}
use lib.Ieee.Exact.{HasValue}
use lib.Ieee.Bits.{of_bits-fits}
use lib.Ieee.Scale.{finite}
use Rattle.number.specs.Units.{units_of}
use Rattle.number.proofs.Patterns.{size_at, pattern_signed, sizes_rise, units_of_pattern, Pattern, pattern_below}
use Rattle.nearness.specs.Nearness.{Size, fraction, root_of, Closest, Nearest, OnlyNearest}
use Rattle.rounding.proofs.Compare.{Cmp, cmp}

-- What a size has to keep: it is not at most one number and at least a larger one.
abbrev Ordered : Size → Type 0
Ordered v = (j k : ℕ) → j < k → v.at_most j → v.at_least k → ⊥

fraction_ordered : (f : Format) (num den : ℕ) → 0 < den → Ordered (fraction f num den)
fraction_ordered f num den D j k h a b = not-le_of_lt (mul-lt-mul_of_pos_right h D) (le_trans b a)

root_ordered : (n : ℕ) → Ordered (root_of n)
root_ordered n j k h a b = not-le_of_lt (square_lt j k h) (le_trans b a)
  where
    square_lt : (x y : ℕ) → x < y → x * x < y * y
    square_lt x y l = let z : suc x * suc x ≤ y * y = mul-le-mul l l in omega arith

-- a finite value of the sign s, by the pattern of its magnitude
record Written (f : Format) (s : Bool) (x : Float) : Type 0 where
  at : ℕ
  small : at < ones f * hid f
  size : units_of f x ≡ size_at f at
  reads : of_bits f (cond s (top f) 0 + at) ≡ x
  bits : to_bits f x ≡ cond s (top f) 0 + at

written : (f : Format) (s : Bool) (m : ℕ) (e : ℤ) → T (fits f (fin s m e)) → Written f s (fin s m e)
written f s m e F = go (pattern_below f (fin s m e) F tt)
  where
    sign_of : (p : Pattern f (fin s m e)) → p.sign ≡ s
    sign_of p = sym (subst (λ (x : Float). HasValue x p.sign (size_at f p.magnitude) (2 ^ low f)) p.reads (pattern_signed f p.sign p.magnitude p.small)).0

    go : Pattern f (fin s m e) → Written f s (fin s m e)
    go p =
        let t = sign_of p in
        record {
          at = p.magnitude;
          small = p.small;
          size = ap (units_of f) (sym p.reads) ∙ units_of_pattern f p.sign p.magnitude p.small;
          reads = ap (λ (b : Bool). of_bits f (cond b (top f) 0 + p.magnitude)) (sym t) ∙ p.reads;
          bits = p.written ∙ ap (λ (b : Bool). cond b (top f) 0 + p.magnitude) t;
        }

-- the value at a pattern
finite_at : (f : Format) (s : Bool) (b : ℕ) → b < ones f * hid f → T (finite (of_bits f (cond s (top f) 0 + b)))
finite_at f s b h = go (of_bits f (cond s (top f) 0 + b)) (pattern_signed f s b h)
  where
    go : (x : Float) → HasValue x s (size_at f b) (2 ^ low f) → T (finite x)
    go nan v = absurd v
    go (inf t) v = absurd v
    go (fin t m e) v = tt

-- a larger size has a larger pattern
rises : (f : Format) (a b : ℕ) → size_at f a < size_at f b → a < b
rises f a b h = go (compare a b) (cmp a b)
  where
    go : (o : Ordering) → Cmp o a b → a < b
    go Ordering.lt l = l
    go Ordering.eq e = absurd (lt_irrefl (size_at f b) (subst (λ (k : ℕ). size_at f k < size_at f b) e h))
    go Ordering.gt g = absurd (not-le_of_lt h (le_of_lt (sizes_rise f b a g)))

odd_even : (c i j : ℕ) → suc i ≡ j → (c + i) % 2 ≡ 0 → (c + j) % 2 ≡ 0 → ⊥
odd_even c i j h y z = omega arith

further : (r d t : ℕ) → r < d → r + t < t + d
further r d t h = omega arith

-- Two nearest values have one size. Between two that are apart lies a third, which one of them would have to be nearer than; or they are neighbours, and both even.
module _ (f : Format) (s : Bool) (v : Size) (O : Ordered v) (x y : Float) (F : T (fits f x)) (G : T (fits f y)) (H : T (finite x)) (K : T (finite y))
    (a : Written f s x) (b : Written f s y) (p : Closest f v x) (q : Closest f v y) where
  not_apart : units_of f x < units_of f y → ⊥
  not_apart l =
      let written-y : units_of f x < size_at f b.at = subst (λ (k : ℕ). units_of f x < k) b.size l in
      let written : size_at f a.at < size_at f b.at = subst (λ (k : ℕ). k < size_at f b.at) a.size written-y in
      ⊎_elim neighbours between (eq-or-lt_of_le (rises f a.at b.at written))
    where
      most : v.at_most (units_of f x + units_of f y)
      most = p.above y G K l

      least : v.at_least (units_of f y + units_of f x)
      least = q.below x F H l

      differ : (j k : ℕ) → j < k → j ≡ k → ⊥
      differ j k h e = lt_irrefl k (subst (λ (i : ℕ). i < k) e h)

      turned : units_of f x + units_of f y ≡ units_of f y + units_of f x
      turned = add_comm (units_of f x) (units_of f y)

      neighbours : suc a.at ≡ b.at → ⊥
      neighbours h =
          odd_even (cond s (top f) 0) a.at b.at h
          (ap (λ (k : ℕ). k % 2) (sym a.bits) ∙ p.tie y G K (differ (units_of f x) (units_of f y) l) most (subst (λ (k : ℕ). v.at_least k) (sym turned) least))
          (ap (λ (k : ℕ). k % 2) (sym b.bits) ∙ q.tie x F H (λ e. differ (units_of f x) (units_of f y) l (sym e)) (subst (λ (k : ℕ). v.at_most k) turned most) least)

      between : suc a.at < b.at → ⊥
      between h =
          let c = suc a.at in
          let C : c < ones f * hid f = omega (arith, b.small) in
          let z = of_bits f (cond s (top f) 0 + c) in
          let size = units_of_pattern f s c C in
          let over : units_of f x < units_of f z =
          subst (λ (k : ℕ). k < units_of f z) (sym a.size) (subst (λ (k : ℕ). size_at f a.at < k) (sym size) (sizes_rise f a.at c (omega arith))) in
          let under : units_of f z < units_of f y =
          subst (λ (k : ℕ). k < units_of f y) (sym size) (subst (λ (k : ℕ). size_at f c < k) (sym b.size) (sizes_rise f c b.at h)) in
          O (units_of f x + units_of f y) (units_of f y + units_of f z) (further (units_of f x) (units_of f z) (units_of f y) over) most
          (q.below z (of_bits-fits f (cond s (top f) 0 + c)) (finite_at f s c C) under)

-- ---- the theorem
module _ (f : Format) (s : Bool) (v : Size) (O : Ordered v) where
  of_sign : (x y : Float) → T (fits f x) → T (fits f y) → T (finite x) → T (finite y) → Written f s x → Written f s y → Closest f v x → Closest f v y → x ≡ y
  of_sign x y F G H K a b p q = go (compare a.at b.at) (cmp a.at b.at)
    where
      go : (o : Ordering) → Cmp o a.at b.at → x ≡ y
      go Ordering.lt l =
          let less : size_at f a.at < units_of f y = subst (λ (k : ℕ). size_at f a.at < k) (sym b.size) (sizes_rise f a.at b.at l) in
          absurd (not_apart f s v O x y F G H K a b p q (subst (λ (k : ℕ). k < units_of f y) (sym a.size) less))
      go Ordering.eq e = sym a.reads ∙ ap (λ (k : ℕ). of_bits f (cond s (top f) 0 + k)) e ∙ b.reads
      go Ordering.gt g =
          let less : size_at f b.at < units_of f x = subst (λ (k : ℕ). size_at f b.at < k) (sym a.size) (sizes_rise f b.at a.at g) in
          absurd (not_apart f s v O y x G F K H b a q p (subst (λ (k : ℕ). k < units_of f x) (sym b.size) less))

  signed : (t : Bool) (m : ℕ) (e : ℤ) → t ≡ s → T (fits f (fin t m e)) → Written f s (fin t m e)
  signed t m e h F = subst (λ (b : Bool). Written f b (fin t m e)) h (written f t m e F)

  one_nearest : (x y : Float) → Nearest f s v x → Nearest f s v y → x ≡ y
  one_nearest nan y h k = absurd h
  one_nearest (inf t) nan h k = absurd k
  one_nearest (inf t) (inf u) h k = ap inf (h.0 ∙ sym k.0)
  one_nearest (inf t) (fin u n d) h k = absurd (k.2 h.1)
  one_nearest (fin t m e) nan h k = absurd k
  one_nearest (fin t m e) (inf u) h k = absurd (h.2 k.1)
  one_nearest (fin t m e) (fin u n d) h k = of_sign (fin t m e) (fin u n d) h.1 k.1 tt tt (signed t m e h.0 h.1) (signed u n d k.0 k.1) h.3 k.3

-- in the plain form and in the square form
pub only_fraction : (f : Format) (s : Bool) (num den : ℕ) → 0 < den → (x : Float) → Nearest f s (fraction f num den) x → OnlyNearest f s (fraction f num den) x
only_fraction f s num den D x h y k = one_nearest f s (fraction f num den) (fraction_ordered f num den D) y x k h

pub only_root : (f : Format) (s : Bool) (n : ℕ) (x : Float) → Nearest f s (root_of n) x → OnlyNearest f s (root_of n) x
only_root f s n x h y k = one_nearest f s (root_of n) (root_ordered n) y x k h
