use Rattle.movie_object_write.specs.Laws.{head_steps}
use Rattle.movie_object_write.proofs.put_head.Goals as goal

pub returns : goal.returns
returns c = head_steps _ _ _ _ _ _ _ _ _ _ c.requires c.put32.ensures c.put32-2.ensures c.put_zeros.ensures c.put32-3.ensures c.put_zeros-2.ensures c.put16.ensures
