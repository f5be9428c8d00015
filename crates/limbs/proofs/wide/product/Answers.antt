use Rattle.std.proofs.Common.{refl, arith}
use Rattle.limbs.proofs.HalfWords.{halves_fit, sums_fit, high_is, low_is}
use Rattle.limbs.proofs.wide.product.Goals as goal

pub overflow_mul-low : goal.overflow_mul-low
overflow_mul-low c = record { fits = omega (arith, halves_fit c.args.a c.args.b c.ranges.a.fits c.ranges.b.fits) }

pub overflow_mul-left : goal.overflow_mul-left
overflow_mul-left c = record { fits = omega (arith, halves_fit c.args.a c.args.b c.ranges.a.fits c.ranges.b.fits) }

pub overflow_mul-right : goal.overflow_mul-right
overflow_mul-right c = record { fits = omega (arith, halves_fit c.args.a c.args.b c.ranges.a.fits c.ranges.b.fits) }

pub overflow_add-one : goal.overflow_add-one
overflow_add-one c = record { fits = (sums_fit c.args.a c.args.b c.ranges.a.fits c.ranges.b.fits).0 }

pub overflow_add-two : goal.overflow_add-two
overflow_add-two c = record { fits = (sums_fit c.args.a c.args.b c.ranges.a.fits c.ranges.b.fits).1 }

pub overflow_mul-result : goal.overflow_mul-result
overflow_mul-result c = record { fits = omega (arith, halves_fit c.args.a c.args.b c.ranges.a.fits c.ranges.b.fits) }

pub overflow_add-result : goal.overflow_add-result
overflow_add-result c = record { fits = (sums_fit c.args.a c.args.b c.ranges.a.fits c.ranges.b.fits).2 }

pub overflow_add-result-2 : goal.overflow_add-result-2
overflow_add-result-2 c = record { fits = (sums_fit c.args.a c.args.b c.ranges.a.fits c.ranges.b.fits).3 }

pub returns : goal.returns
returns c = (
  high_is c.args.a c.args.b c.ranges.a.fits c.ranges.b.fits,
  low_is c.args.a c.args.b c.ranges.a.fits c.ranges.b.fits _ _ refl refl,
)
