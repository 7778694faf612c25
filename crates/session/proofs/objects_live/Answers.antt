-- A frame tells the answer, or leaves it to those below it. Assumes nothing.
use Rattle.std.proofs.Common.{◌≡◌, ◌∙◌, arith}
use Rattle.session.specs.Rules.{objects_live}
use Rattle.session.specs.Laws.{object_off, object_on}
use Rattle.session.proofs.objects_live.Goals as goal

pub returns-then-count-read : goal.returns-then-count-read
returns-then-count-read c = object_off _ _ _ (omega arith) c.read.ensures c.if-count-read.true ∙ c.loop-at.invariant

pub loop-at-preserved : goal.loop-at-preserved
loop-at-preserved c = object_on _ _ _ (omega arith) c.read.ensures c.if-count-read.false ∙ c.loop-at.invariant

pub returns : goal.returns
unfolding objects_live
returns c = let none : c.loop-at.at ≡ 0 = omega arith in rw none at c.loop-at.invariant
