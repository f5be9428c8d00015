use Rattle.std.proofs.Common.{refl, ℕ, ◌%◌, ◌≡◌, ◌*◌, ◌/◌, ◌^◌, ◌<◌, ◌≤◌, le_trans, arith, lit≤, ltb→lt}
use Rattle.number.proofs.Order.{holds}
use Rattle.near_roots.proofs.Tested.{code_wide, room, code_nearest}
use Rattle.near_roots.proofs.nearest.is_nearest.Goals as goal

-- u is 2 ^ 11 times a number of 53 digits
digits : (u : ℕ) → 2 ^ 63 ≤ u → u % 2048 ≡ 0 → u < 2 ^ 64 → (u ≡ u / 2 ^ 11 * 2048) × (2 ^ 52 ≤ u / 2 ^ 11) × (u / 2 ^ 11 < 2 ^ 53)
digits u a b f = (omega arith, omega arith, omega arith)

pub overflow_sub-w : goal.overflow_sub-w
overflow_sub-w c =
    let d = digits c.args.u c.requires.1 c.requires.2 c.ranges.u.fits in
    omega (arith, (code_wide c.args.u (c.args.u / 2 ^ 11) c.args.p d.0 d.1 d.2 c.requires.3).0)

pub overflow_mul-result : goal.overflow_mul-result
overflow_mul-result c =
    let d = digits c.args.u c.requires.1 c.requires.2 c.ranges.u.fits in
    record { fits = omega (arith, (code_wide c.args.u (c.args.u / 2 ^ 11) c.args.p d.0 d.1 d.2 c.requires.3).1) }

pub returns : goal.returns
returns c t =
    let q = c.product-q in
    let d = digits c.args.u c.requires.1 c.requires.2 c.ranges.u.fits in
    let w = code_wide c.args.u (c.args.u / 2 ^ 11) c.args.p d.0 d.1 d.2 c.requires.3 in
    code_nearest c.args.u (c.args.u / 2 ^ 11) c.args.p d.0 d.1 d.2 c.requires.3
    c.args.h q.result.hi _ _ _ c.requires.0 c.ranges.h.fits q.ensures.0 (omega arith) (omega arith)
    refl (ltb→lt _ _ (holds t)) (room _ _ (le_trans (lit≤ tt) w.0) (lit≤ tt))
