-- A turn is `titles_step`. Assumes nothing.
use Rattle.std.proofs.Common.{refl, sym, ◌∙◌, arith}
use Rattle.laws.specs.Firsts.{blocks}
use Rattle.laws.specs.Over.{over_nil}
use Rattle.index_bdmv_write.specs.Laws.{titles_step}
use Rattle.index_bdmv_write.specs.Rules.{titles_of, size_of}
use Rattle.index_bdmv_write.proofs.put_titles.Goals as goal

pub loop-k-init : goal.loop-k-init
unfolding blocks
loop-k-init c = (refl, sym (over_nil _ _))

pub put_one-requires : goal.put_one-requires
unfolding titles_of
put_one-requires c = (omega (arith, c.requires.0, c.loop-k.invariant.0, c.loop-k-test.true), omega (arith, c.requires.2, c.loop-k-test.true), c.requires.1)

pub loop-k-preserved : goal.loop-k-preserved
unfolding size_of titles_of
loop-k-preserved c = (c.put_one.auto.out ∙ c.loop-k.invariant.0, titles_step _ _ _ _ c.loop-k.k _ c.requires.1.lengths (omega (arith, c.requires.2, c.loop-k-test.true)) (omega (arith, c.requires.0, c.requires.2)) refl c.loop-k.invariant.1 c.put_one.ensures)
