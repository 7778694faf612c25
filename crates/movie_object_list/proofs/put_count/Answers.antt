use borrow.Author.Tests.{eq-eqb, ne_eqb}
use Rattle.movie_object_list.specs.Rules.{count_text}
use Rattle.text.specs.Laws.{then}
use Rattle.movie_object_list.proofs.put_count.Goals as goal

pub returns-then-count-eq1 : goal.returns-then-count-eq1
unfolding count_text
returns-then-count-eq1 c = rw (eq-eqb _ _ c.if-count-eq1.true) (then c.put_decimal-at.ensures c.put.ensures)

pub returns-else-count-eq1 : goal.returns-else-count-eq1
unfolding count_text
returns-else-count-eq1 c = rw (ne_eqb _ _ c.if-count-eq1.false) (then c.put_decimal-at.ensures c.put-else-count-eq1.ensures)
