-- A frame tells the answer, or leaves it to those below it. Assumes nothing.
use Rattle.std.proofs.Common.{◌≡◌, ◌∙◌, arith}
use Rattle.session.specs.Rules.{titles_live}
use Rattle.session.specs.Laws.{title_off, title_on}
use Rattle.session.proofs.titles_live.Goals as goal

pub returns-then-bad : goal.returns-then-bad
returns-then-bad c = title_off _ _ _ (omega arith) c.read-frame.ensures c.if-bad.true ∙ c.loop-at.invariant

pub loop-at-preserved : goal.loop-at-preserved
loop-at-preserved c = title_on _ _ _ (omega arith) c.read-frame.ensures c.if-bad.false ∙ c.loop-at.invariant

pub returns : goal.returns
unfolding titles_live
returns c = let none : c.loop-at.at ≡ 0 = omega arith in rw none at c.loop-at.invariant
