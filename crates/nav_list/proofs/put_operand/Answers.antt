-- `put_operand` writes an operand by its kind. Assumes nothing.
use Rattle.nav_list.specs.Rules.{immediate_text, general_text}
use Rattle.text.specs.Laws.{then}
use Rattle.nav_list.proofs.put_operand.Goals as goal

pub returns-in-1 : goal.returns-in-1
unfolding immediate_text
returns-in-1 c = rw c.in-1.is (then c.put-p.ensures c.put_hex.ensures)

pub returns-in-2 : goal.returns-in-2
unfolding general_text
returns-in-2 c = rw c.in-2.is (then c.put-p-in-2.ensures c.put_decimal.ensures)
