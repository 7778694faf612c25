use Rattle.index_bdmv_write.specs.Laws.{lent, special_steps}
use Rattle.index_bdmv_write.proofs.put_special.Goals as goal

pub returns : goal.returns
returns c = let s = c in let a = s.args in special_steps _ _ _ _ _ (lent a.entries.now) s.requires.1.lengths s.requires.0 (rw s.requires.2 at c.put32.ensures) c.put_one.ensures c.put_one-2.ensures (rw s.requires.2 at c.put16.ensures)
