use Rattle.std.proofs.Common.{ℕ, ◌+◌, ◌-◌, ◌*◌, ◌/◌, ◌%◌, ◌^◌, ◌<◌, ◌≤◌, ◌∙◌, lt_of_lt_of_le, lt_of_le_of_lt, arith, lit<}
use lib.Ieee.{binary64, to_bits}
use Rattle.rounding.proofs.Scaled.{no_nan}
use Rattle.rounding.proofs.Unpack.{code_field, code_exponent}
use Rattle.exact_roots.proofs.Parted.{parted}
use Rattle.exact_roots.proofs.Lengths.{Both, code_near}
use Rattle.near_roots.proofs.Tested.{code_packed, code_pattern}
use Rattle.near_roots.proofs.length.near_length.Goals as goal

-- u, as the code has it, is 2 ^ 11 times a number of 53 digits
digits : (b : ℕ) → (2 ^ 52 ≤ (b % 2 ^ 52 * 2048 + 2 ^ 63) / 2 ^ 11) × ((b % 2 ^ 52 * 2048 + 2 ^ 63) / 2 ^ 11 < 2 ^ 53)
digits b = (omega arith, omega arith)

pub float_from_bits-result : goal.float_from_bits-result
float_from_bits-result c =
    let b = to_bits binary64 c.of_whole-g.result in
    let e = c.fields-p.ensures.1 in
    no_nan _ (code_pattern _ ((b % 2 ^ 52 * 2048 + 2 ^ 63) / 2 ^ 11) (omega (arith, c.requires.1)) (digits b).1)

pub returns-then-is_nearest : goal.returns-then-is_nearest
returns-then-is_nearest c o =
    let x = c.args.a in
    let y = c.args.b in
    let p = c.fields-p.result in
    let q = c.fields-q.result in
    let e = c.fields-p.ensures in
    let f = c.fields-q.ensures in
    let b = to_bits binary64 c.of_whole-g.result in
    let h = c.upper_sum-h in
    let n = p.m * 4 * (p.m * 4) + q.m * 4 * (q.m * 4) / 2 ^ ((p.k - q.k) * 2) in
    let t = q.m * 4 * (q.m * 4) % 2 ^ ((p.k - q.k) * 2) in
    let w = c.is_nearest.ensures c.if-is_nearest.true n h.ensures.2 h.ensures.3 in
    let above : 2 ^ 52 ≤ x = omega (arith, c.requires) in
    let over : 2 ^ 52 ≤ y = omega (arith, c.requires) in
    let below : x < 0x7ff0_0000_0000_0000 = omega (arith, c.requires) in
    let both : Both x y p.m p.k q.m q.k = record {
      first = parted x p.m p.k below (e.0 ∙ code_field x above, e.1 ∙ code_exponent x above);
      second = parted y q.m q.k (lt_of_le_of_lt o below) (f.0 ∙ code_field y over, f.1 ∙ code_exponent y over);
      some = lt_of_lt_of_le (lit< tt) above;
      ordered = o;
      below = below;
    } in
    let least : 53 ≤ p.k = omega (arith, e.1, c.requires.0) in
    let most : p.k < 2098 = omega (arith, e.1, c.requires.1) in
    code_packed n t ((b % 2 ^ 52 * 2048 + 2 ^ 63) / 2 ^ 11) p.k (digits b).0 (digits b).1 least most h.result h.ensures.0 h.ensures.2 w
    ∙ code_near x y p.m p.k q.m q.k both

pub returns : goal.returns
returns c o = tt
