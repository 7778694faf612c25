use Rattle.index_bdmv_write.specs.Laws.{head_steps}
use Rattle.index_bdmv_write.proofs.put_head.Goals as goal

pub returns : goal.returns
returns c = head_steps _ _ _ _ _ _ _ _ _ _ c.requires.0 c.put32.ensures c.put32-2.ensures c.put32-3.ensures c.put_zeros.ensures c.put32-4.ensures c.put_app_info.ensures c.put_zeros-2.ensures
