-- `digits` counts a numeral's digits: each test and each turn takes the last one off. Assumes nothing.
use native.Mathlib.Omega.{arith}
use Rattle.text.proofs.Laws.{at_most, count_starts, count_on, count_ends}
use Rattle.text.proofs.digits.Goals as goal

pub returns-then-n-base : goal.returns-then-n-base
returns-then-n-base c = count_ends c.requires (omega arith) c.if-n-base.true (count_starts c.requires (omega arith))

pub returns-then-two-base : goal.returns-then-two-base
returns-then-two-base c = count_ends c.requires (omega arith) c.if-two-base.true (count_on c.requires (omega arith) c.if-n-base.false (count_starts c.requires (omega arith)))

pub returns-then-three-base : goal.returns-then-three-base
returns-then-three-base c = count_ends c.requires (omega arith) c.if-three-base.true (count_on c.requires (omega arith) c.if-two-base.false (count_on c.requires (omega arith) c.if-n-base.false (count_starts c.requires (omega arith))))

pub returns-then-four-base : goal.returns-then-four-base
returns-then-four-base c = count_ends c.requires (omega arith) c.if-four-base.true (count_on c.requires (omega arith) c.if-three-base.false (count_on c.requires (omega arith) c.if-two-base.false (count_on c.requires (omega arith) c.if-n-base.false (count_starts c.requires (omega arith)))))

pub loop-left-init : goal.loop-left-init
loop-left-init c = count_on c.requires (omega arith) c.if-four-base.false (count_on c.requires (omega arith) c.if-three-base.false (count_on c.requires (omega arith) c.if-two-base.false (count_on c.requires (omega arith) c.if-n-base.false (count_starts c.requires (omega arith)))))

pub overflow_add-count : goal.overflow_add-count
overflow_add-count c = omega (arith, c.loop-left.invariant.both, at_most c.args.base c.args.n c.requires (omega arith))

pub loop-left-preserved : goal.loop-left-preserved
loop-left-preserved c = count_on c.requires (omega arith) c.loop-left-test.true c.loop-left.invariant

pub returns : goal.returns
returns c = count_ends c.requires (omega arith) c.loop-left-test.false c.loop-left.invariant
