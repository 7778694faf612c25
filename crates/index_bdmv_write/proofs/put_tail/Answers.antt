use borrow.Author.Tests.{eq-eqb, ne_eqb}
use Rattle.index_bdmv_write.specs.Laws.{hdmv_steps, bdj_steps}
use Rattle.index_bdmv_write.specs.Rules.{tail_bytes}
use Rattle.index_bdmv_write.proofs.put_tail.Goals as goal

pub returns-then-kind-eq1 : goal.returns-then-kind-eq1
unfolding tail_bytes
returns-then-kind-eq1 c = rw (eq-eqb _ _ c.if-kind-eq1.true) (hdmv_steps _ _ _ _ _ c.requires.0 c.put16.ensures c.put_zeros.ensures)

pub returns-else-kind-eq1 : goal.returns-else-kind-eq1
unfolding tail_bytes
returns-else-kind-eq1 c = rw (ne_eqb _ _ c.if-kind-eq1.false) (bdj_steps _ _ _ _ _ c.requires.1 c.requires.0 c.put_bytes.ensures c.put_zeros-else-kind-eq1.ensures)
