use Rattle.laws.specs.Over.{store2}
use Rattle.index_bdmv_write.proofs.put_app_info.Goals as goal

pub returns : goal.returns
returns c = store2 _ 44 _ _ c.requires.0
