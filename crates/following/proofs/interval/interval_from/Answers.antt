use Rattle.std.proofs.Common.{◌≡◌, ℕ, ◌+◌, ◌-◌, ◌<◌, ◌≤◌, true, not, sym, ap, length, arith, eq-or-lt_of_le, ⊎_elim}
use Rattle.std.specs.Float.Ieee.{lt}
use Rattle.loops.specs.Upto.{at}
use Rattle.loops.proofs.Counting.{first_is}
use Rattle.byte_lists.specs.Bytes.{doubles_of}
use Rattle.byte_lists.proofs.Fronts.{length_doubles}
use Rattle.following.specs.Places.{interval_of}
use Rattle.following.proofs.interval.interval_from.Goals as goal

pub overflow_step-k : goal.overflow_step-k
overflow_step-k c = omega (arith, length_doubles c.args.t.now)

le_of_lt_add_one : (a b : ℕ) → a < b + 1 → a ≤ b
le_of_lt_add_one a b h = omega arith

pub loop-k-init : goal.loop-k-init
loop-k-init c j h = c.requires.1 j (omega arith)

pub loop-k-preserved : goal.loop-k-preserved
loop-k-preserved c j h =
    let below : lt (at (doubles_of c.args.t.now) c.loop-k.k) c.args.x ≡ true = rw (← c.double_at.ensures) c.if-not-double_at-x.false in
    ⊎_elim (λ e. rw e below) (λ l. c.loop-k.invariant j l) (eq-or-lt_of_le (le_of_lt_add_one _ _ h))

pub returns-then-not-double_at-x : goal.returns-then-not-double_at-x
unfolding interval_of
returns-then-not-double_at-x c =
    let t = doubles_of c.args.t.now in
    let k = c.loop-k.k in
    let e : k - 1 + 1 ≡ k = omega arith in
    sym
    (first_is _ _ (k - 1) (omega (arith, length_doubles c.args.t.now)) (λ j h. ap not (c.loop-k.invariant j (omega arith)))
    (λ h. rw (e, ← c.double_at.ensures, c.if-not-double_at-x.true)))

pub returns : goal.returns
unfolding interval_of
returns c =
    let e : c.saturating_sub.result ≡ length (doubles_of c.args.t.now) - 1 = omega (arith, length_doubles c.args.t.now) in
    sym
    (first_is _ _ _ (omega arith) (λ j h. ap not (c.loop-k.invariant j (omega (arith, length_doubles c.args.t.now))))
    (λ h. absurd (omega arith)))
