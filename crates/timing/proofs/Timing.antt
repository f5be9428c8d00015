-- Laws of specs/Times: one leg more, the last time tells of all, the checks before 19 in the code's order, and times written from aside.
use Rattle.std.proofs.Common.{ℕ, zero, suc, ◌+◌, ◌*◌, ◌-◌, ◌≤◌, ◌<◌, ◌≡◌, refl, sym, ap, subst, ◌∙◌, Bool, true, false, ◌&&◌, List, add-one, arith, length, take, length-take-le, get_or-take, T, leb, Float}
use Rattle.std.specs.Float.{binary64, nan}
use lib.Ieee.Bits.{is_true}
use Rattle.std.specs.Float.Ieee.Scale.{finite}
use Rattle.number.specs.Doubles.{◌⊕◌}
use Rattle.number.proofs.Monotone.{add_finite}
use Rattle.roots.specs.Root.{sqrt_of}
use Rattle.loops.specs.Upto.{every, filled, at}
use Rattle.loops.proofs.Filling.{filled_at}
use Rattle.byte_lists.proofs.Encoding.{bytes_same}
use Rattle.refusals.specs.Refusals.{unless, ◌or◌}
use Rattle.refusals.proofs.Chains.{or_assoc}
use Rattle.profile.specs.Profile.{profile_no, speed_no}
use Rattle.byte_lists.specs.Bytes.{byte_of}
use Rattle.timing.specs.Times.{leg, leg_time, time_at, times_finite, start_no}

time_more : (s a : List Float) (t0 : Float) (k : ℕ) → time_at s a t0 (k + 1) ≡ time_at s a t0 k ⊕ leg_time s a k
unfolding time_at
time_more s a t0 k = rw add-one

-- the leg that ends at station k
pub time_turn : (s a : List Float) (t0 : Float) (k : ℕ) (t here there root next : Float) → 0 < k → t ≡ time_at s a t0 (k - 1) → here ≡ at s (k - 1) → there ≡ at s k
    → root ≡ sqrt_of binary64 (at a (k - 1)) → next ≡ sqrt_of binary64 (at a k) → t ⊕ leg here there root next ≡ time_at s a t0 k
unfolding leg_time
time_turn s a t0 k t here there root next h e p q f g =
    let d : k - 1 + 1 ≡ k = omega arith in
    rw (e, p, q, f, g) (rw d at (sym (time_more s a t0 (k - 1))))

-- ---- a sum is finite only where its parts are: the last time tells of all
implied : (p q : Bool) → (q ≡ true → p ≡ true) → p && q ≡ q
implied true q h = refl
implied false true h = h refl
implied false false h = refl

last_tells : (p : ℕ → Bool) → ((k : ℕ) → p (suc k) ≡ true → p k ≡ true) → (n : ℕ) → every p (suc n) ≡ p n
unfolding every
last_tells p h zero = refl
last_tells p h (suc n) = rw (last_tells p h n) (implied (p n) (p (suc n)) (h n))

finite_before : (s a : List Float) (t0 : Float) (k : ℕ) → finite (time_at s a t0 (suc k)) ≡ true → finite (time_at s a t0 k) ≡ true
unfolding time_at
finite_before s a t0 k h = is_true _ (add_finite binary64 (time_at s a t0 k) (leg_time s a k) (subst T (sym h) tt)).0

pub told_by_last : (s a : List Float) (t0 last : Float) → 1 ≤ length s → last ≡ time_at s a t0 (length s - 1) → times_finite s a t0 ≡ finite last
unfolding times_finite
told_by_last s a t0 last h g =
    let e : length s ≡ suc (length s - 1) = omega arith in
    rw g (ap (every (λ k. finite (time_at s a t0 k))) e ∙ last_tells _ (finite_before s a t0) (length s - 1))

-- ---- the checks before 19
-- the number of the room, which is told last
pub start_last : (s a : List Float) (t0 : Float) (room : ℕ)
    → start_no s a t0 room ≡ (profile_no s a or (unless (finite t0) 16 or speed_no a)) or unless (leb (length s) room) 29
unfolding start_no
start_last s a t0 room =
    let p = profile_no s a in
    let w = unless (finite t0) 16 in
    let v = speed_no a in
    let short = unless (leb (length s) room) 29 in
    sym (or_assoc p (w or v) short ∙ ap (λ (m : ℕ). p or m) (or_assoc w v short))

-- ---- times worked out aside, then written
pub written_same : (f : ℕ → Float) (n : ℕ) (old x : List Float) (out : List ℕ) → n ≤ length x → x ≡ filled f n old
    → filled (byte_of (at (take n x))) (8 * length (take n x)) out ≡ filled (byte_of f) (8 * n) out
written_same f n old x out h e =
    let m : length (take n x) ≡ n = length-take-le n x h in
    rw m (bytes_same (at (take n x)) f n out (λ k l. get_or-take n x k nan l ∙ rw e (filled_at f n old k l)))
