use Rattle.std.proofs.Common.{sym, ◌∙◌, arith}
use borrow.Author.Tests.{ltb-true}
use Rattle.groups.proofs.Values.{edge, ended_by}
use Rattle.groups.proofs.end_at.Goals as goal
use Rattle.groups.proofs.end_at.Goals.{else-is_below-via-then-is_below+else-is_shortest, else-is_below-via-else-is_below}

pub value-requires : goal.value-requires
value-requires c =
    let t = sym (edge _ c.args.at c.args.k (ltb-true _ _ c.requires.2) c.requires.0) ∙ sym c.is_below.ensures ∙ c.if-is_below.true in
    (omega arith, ltb-true _ _ t)

pub returns-then-is_shortest : goal.returns-then-is_shortest
returns-then-is_shortest c =
    let e = ended_by c.args.bytes.now c.args.at c.args.k (ltb-true _ _ c.requires.2) c.requires.0 in
    rw (
      c.value.ensures,
      ← e,
      ← c.is_below.ensures,
      c.if-is_below.true,
      ← c.is_shortest.ensures,
      c.if-is_shortest.true,
    )

pub returns-else-is_below : goal.returns-else-is_below
returns-else-is_below c =
    let e = ended_by c.args.bytes.now c.args.at c.args.k (ltb-true _ _ c.requires.2) c.requires.0 in
    elim c.else-is_below.branch [
      | else-is_below-via-then-is_below+else-is_shortest w ↦
          rw (← e, ← c.is_below.ensures, w.if-is_below.true, ← w.is_shortest.ensures, w.if-is_shortest.false)
      | else-is_below-via-else-is_below w ↦ rw (← e, ← c.is_below.ensures, w.if-is_below.false)
    ]
