-- A fold by an operation that is associative, commutative and idempotent depends only on which elements the list has, and not on their order or number.
-- The lesser of two, by a total order that is a Bool test, is such an operation. Assumes nothing.
use Rattle.std.proofs.Common.{◌≡◌, Bool, true, false, cond, T, ◌⊎◌, List, [], ◌∷◌, sym, refl, ap, ◌∙◌, inl, inr}
use mathlib.Core.List.{foldl, Memᴰ}

abbrev pub All : {A : Type 0} → (A → Type 0) → List A → Type 0
All P [] = Unit {0}
All P (x ∷ xs) = P x × All P xs

-- each element of the first list is one of the second
abbrev pub Within : {A : Type 0} → List A → List A → Type 0
Within {A} l k = (x : A) → Memᴰ x l → Memᴰ x k

-- among the values with P
pub record Semilattice {A : Type 0} (P : A → Type 0) (op : A → A → A) : Type 0 where
  pub closed : (x y : A) → P x → P y → P (op x y)
  pub commutative : (x y : A) → P x → P y → op x y ≡ op y x
  associative : (x y z : A) → P x → P y → P z → op (op x y) z ≡ op x (op y z)
  idempotent : (x : A) → P x → op x x ≡ x

module _ {A : Type 0} (P : A → Type 0) (op : A → A → A) (S : Semilattice P op) where
  fold_closed : (b : A) (l : List A) → P b → All P l → P (foldl op b l)
  fold_closed b [] B L = B
  fold_closed b (x ∷ xs) B L = fold_closed (op b x) xs (S.closed b x B L.0) L.1

  -- x goes past y, and a second x changes nothing
  swap : (z x y : A) → P z → P x → P y → op (op z x) y ≡ op (op z y) x
  swap z x y Z X Y = S.associative z x y Z X Y ∙ ap (op z) (S.commutative x y X Y) ∙ sym (S.associative z y x Z Y X)

  again : (z x : A) → P z → P x → op (op z x) x ≡ op z x
  again z x Z X = S.associative z x x Z X X ∙ ap (op z) (S.idempotent x X)

  -- what is put in first may as well be put in last
  last : (b x : A) (l : List A) → P b → P x → All P l → foldl op (op b x) l ≡ op (foldl op b l) x
  last b x [] B X L = refl
  last b x (y ∷ ys) B X L = ap (λ (z : A). foldl op z ys) (swap b x y B X L.0) ∙ last (op b y) x ys (S.closed b y B L.0) X L.1

  absorb : (b x : A) (l : List A) → P b → P x → All P l → Memᴰ x l → op (foldl op b l) x ≡ foldl op b l
  absorb b x [] B X L m = elim m [ ]
  absorb b x (y ∷ ys) B X L (Memᴰ.head e) =
      ap (op (foldl op (op b y) ys)) e
      ∙ ap (λ (z : A). op z y) (last b y ys B L.0 L.1)
      ∙ again (foldl op b ys) y (fold_closed b ys B L.1) L.0
      ∙ sym (last b y ys B L.0 L.1)
  absorb b x (y ∷ ys) B X L (Memᴰ.tail m) = absorb (op b y) x ys (S.closed b y B L.0) X L.1 m

  absorb_all : (b : A) (l k : List A) → P b → All P l → All P k → Within l k → op (foldl op b k) (foldl op b l) ≡ foldl op b k
  absorb_all b [] k B L K h = sym (last b b k B B K) ∙ ap (λ (z : A). foldl op z k) (S.idempotent b B)
  absorb_all b (y ∷ ys) k B L K h =
      ap (op (foldl op b k)) (last b y ys B L.0 L.1)
      ∙ sym (S.associative (foldl op b k) (foldl op b ys) y (fold_closed b k B K) (fold_closed b ys B L.1) L.0)
      ∙ ap (λ (z : A). op z y) (absorb_all b ys k B L.1 K (λ x m. h x (Memᴰ.tail m)))
      ∙ absorb b y k B L.0 K (h y (Memᴰ.head refl))

  pub fold_same : (b : A) (l k : List A) → P b → All P l → All P k → Within l k → Within k l → foldl op b l ≡ foldl op b k
  fold_same b l k B L K h g =
      sym (absorb_all b k l B K L g)
      ∙ S.commutative (foldl op b l) (foldl op b k) (fold_closed b l B L) (fold_closed b k B K)
      ∙ absorb_all b l k B L K h

-- ---- the lesser of two
pub record TotalOrder {A : Type 0} (P : A → Type 0) (R : A → A → Bool) : Type 0 where
  pub total : (x y : A) → P x → P y → T (R x y) ⊎ T (R y x)
  pub trans : (x y z : A) → P x → P y → P z → T (R x y) → T (R y z) → T (R x z)
  pub anti : (x y : A) → P x → P y → T (R x y) → T (R y x) → x ≡ y

abbrev pub lesser : {A : Type 0} → (A → A → Bool) → A → A → A
lesser R x y = cond (R x y) x y

module _ {A : Type 0} (P : A → Type 0) (R : A → A → Bool) (O : TotalOrder P R) where
  self : (x : A) → P x → T (R x x)
  self x X = elim (O.total x x X X) [ inl t ↦ t | inr t ↦ t ]

  which : (x y : A) → P x → P y → ((lesser R x y ≡ x) × T (R x y)) ⊎ ((lesser R x y ≡ y) × T (R y x))
  which x y X Y = go (R x y) (λ t. t) (O.total x y X Y)
    where
      go : (b : Bool) → (T b → T (R x y)) → T b ⊎ T (R y x) → ((cond b x y ≡ x) × T (R x y)) ⊎ ((cond b x y ≡ y) × T (R y x))
      go true h o = inl (refl, h tt)
      go false h (inl t) = absurd t
      go false h (inr t) = inr (refl, t)

  ok : (x y : A) → P x → P y → P (lesser R x y)
  ok x y X Y = elim (which x y X Y) [ inl p ↦ rw p.0 X | inr p ↦ rw p.0 Y ]

  low_l : (x y : A) → P x → P y → T (R (lesser R x y) x)
  low_l x y X Y = elim (which x y X Y) [ inl p ↦ rw p.0 (self x X) | inr p ↦ rw p.0 p.1 ]

  low_r : (x y : A) → P x → P y → T (R (lesser R x y) y)
  low_r x y X Y = elim (which x y X Y) [ inl p ↦ rw p.0 p.1 | inr p ↦ rw p.0 (self y Y) ]

  glb : (w x y : A) → P x → P y → T (R w x) → T (R w y) → T (R w (lesser R x y))
  glb w x y X Y h k = elim (which x y X Y) [ inl p ↦ rw p.0 h | inr p ↦ rw p.0 k ]

  pub lesser_lattice : Semilattice P (lesser R)
  lesser_lattice = record {
    closed = ok;
    commutative = λ x y X Y.
        let u = lesser R x y in
        let v = lesser R y x in
        O.anti u v (ok x y X Y) (ok y x Y X) (glb u y x Y X (low_r x y X Y) (low_l x y X Y)) (glb v x y X Y (low_r y x Y X) (low_l y x Y X));
    associative = both;
    idempotent = λ x X. elim (which x x X X) [ inl p ↦ p.0 | inr p ↦ p.0 ];
  }
    where
      both : (x y z : A) → P x → P y → P z → lesser R (lesser R x y) z ≡ lesser R x (lesser R y z)
      both x y z X Y Z =
          let a = lesser R x y in
          let b = lesser R y z in
          let A' = ok x y X Y in
          let B' = ok y z Y Z in
          let l = lesser R a z in
          let r = lesser R x b in
          let L = ok a z A' Z in
          let Q = ok x b X B' in
          O.anti l r L Q
          (glb l x b X B' (O.trans l a x L A' X (low_l a z A' Z) (low_l x y X Y)) (glb l y z Y Z (O.trans l a y L A' Y (low_l a z A' Z) (low_r x y X Y)) (low_r a z A' Z)))
          (glb r a z A' Z (glb r x y X Y (low_l x b X B') (O.trans r b y Q B' Y (low_r x b X B') (low_l y z Y Z))) (O.trans r b z Q B' Z (low_r x b X B') (low_r y z Y Z)))
