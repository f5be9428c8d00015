use Rattle.std.proofs.Common.{◌≡◌, ℕ, ◌+◌, ◌-◌, ◌<◌, Bool, sym, ap, ap₂, ◌∙◌, ◌&&◌, length, arith}
use Rattle.loops.specs.Upto.{every, at}
use Rattle.loops.specs.Entries.{every_pair}
use Rattle.loops.proofs.Counting.{every_none, every_next}
use Rattle.byte_lists.specs.Bytes.{doubles_of}
use Rattle.list_tests.proofs.tests.Finite.every_pair.Goals as goal

-- one pair more, the one that ends at k
one_more : (p : ℕ → Bool) (k : ℕ) → 0 < k → every p (k + 1 - 1) ≡ every p (k - 1) && p (k - 1)
one_more p k h =
    let e : k + 1 - 1 ≡ k - 1 + 1 = omega arith in
    ap (every p) e ∙ every_next p (k - 1)

pub loop-k-init : goal.loop-k-init
loop-k-init g c = record { within = omega arith; told = λ p h. sym (every_none _) }

pub loop-k-preserved : goal.loop-k-preserved
loop-k-preserved g c =
    let k = c.loop-k.k in
    let x = doubles_of c.args.self.bytes.now in
    let e : k - 1 + 1 ≡ k = omega arith in record {
      within = omega arith;
      told = λ p h.
          let now : c.test-all.result ≡ p (at x (k - 1)) (at x (k - 1 + 1)) = rw e (h _ _ _ c.test-all.ensures ∙ ap₂ p c.get.ensures c.get-in-loop-k.ensures) in
          ap₂ ◌&&◌ (c.loop-k.invariant.told p h) now ∙ sym (one_more (λ j. p (at x j) (at x (j + 1))) k (omega arith));
    }

pub returns : goal.returns
unfolding every_pair
returns g c p h =
    let e : c.loop-k.k - 1 ≡ length (doubles_of c.args.self.bytes.now) - 1 = omega arith in
    rw e at (c.loop-k.invariant.told p h)
