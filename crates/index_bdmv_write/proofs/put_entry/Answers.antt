use Rattle.index_bdmv_write.specs.Laws.{entry_steps, length_tail_bytes}
use Rattle.index_bdmv_write.specs.Rules.{entry_bytes}
use Rattle.index_bdmv_write.proofs.put_entry.Goals as goal

pub returns : goal.returns
unfolding entry_bytes
returns c = entry_steps _ _ _ _ _ _ (length_tail_bytes _ _ _ c.requires.3) c.requires.0 c.put_tail.ensures
