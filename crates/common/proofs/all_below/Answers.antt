-- The bytes passed are below the bound; the first that is not decides (`below_more`, `below_not`). Assumes nothing.
use Rattle.std.proofs.Common.{sym}
use Rattle.laws.specs.Firsts.{below_none, below_more, below_not}
use Rattle.common.proofs.all_below.Goals as goal

pub loop-b-init : goal.loop-b-init
loop-b-init c = below_none _ _

pub loop-b-preserved : goal.loop-b-preserved
loop-b-preserved c = below_more _ _ _ c.loop-b.invariant c.if-bound-b.false

pub returns-then-bound-b : goal.returns-then-bound-b
returns-then-bound-b c = sym (below_not _ _ c.loop-b.b-index _ c.loop-b-test.true c.if-bound-b.true)
