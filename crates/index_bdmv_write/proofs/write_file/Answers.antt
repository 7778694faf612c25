-- The three calls that write, one after the other (`file_steps`). Assumes nothing.
use Rattle.std.proofs.Common.{refl, arith}
use Rattle.common.specs.Laws.{left_is}
use Rattle.index_bdmv_write.specs.Laws.{file_steps}
use Rattle.index_bdmv_write.specs.Rules.{size_of, titles_of}
use Rattle.index_bdmv_write.proofs.write_file.Goals as goal

pub put_head-requires : goal.put_head-requires
unfolding size_of
put_head-requires c = (omega (arith, c.requires.fits), c.requires.fields.app_fits_tells)

pub put_special-requires : goal.put_special-requires
unfolding size_of titles_of
put_special-requires c = (omega (arith, c.requires.fits, c.put_head.auto.out), c.requires.fields.good, refl)

pub put_titles-requires : goal.put_titles-requires
unfolding size_of titles_of
put_titles-requires c = (omega (arith, c.requires.fits, c.put_head.auto.out, c.put_special.auto.out), c.requires.fields.good, refl)

pub returns : goal.returns
unfolding size_of titles_of
returns c = left_is (file_steps _ _ _ _ c.args.version c.args.app _ c.requires c.put_head.ensures c.put_special.ensures c.put_titles.ensures) refl
