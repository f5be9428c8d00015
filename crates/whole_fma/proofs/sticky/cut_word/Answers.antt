use Rattle.std.proofs.Common.{◌∙◌, arith}
use Rattle.whole_fma.proofs.Cuts.{word_far, word_kept, word_lost, word_fits}
use Rattle.whole_fma.proofs.sticky.cut_word.Goals as goal

pub returns-then-w-eq0 : goal.returns-then-w-eq0
returns-then-w-eq0 c = omega arith ∙ word_far c.args.w c.args.sh c.ranges.w.fits c.if-sh-gt63.true

pub returns-else-w-eq0 : goal.returns-else-w-eq0
returns-else-w-eq0 c = omega arith ∙ word_far c.args.w c.args.sh c.ranges.w.fits c.if-sh-gt63.true

pub returns-then-q-sh : goal.returns-then-q-sh
returns-then-q-sh c = word_kept c.args.w c.args.sh c.ranges.w.fits c.if-q-sh.true

pub overflow_add-result : goal.overflow_add-result
overflow_add-result c = record { fits = word_fits c.args.w c.args.sh c.ranges.w.fits c.if-q-sh.false }

pub returns : goal.returns
returns c = word_lost c.args.w c.args.sh c.ranges.w.fits c.if-q-sh.false
