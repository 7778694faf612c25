-- `put_line` writes head and operands one after the other, as many as there are. Assumes nothing.
use Rattle.text.specs.Laws.{then}
use Rattle.nav_list.proofs.Laws.{no_operand, one_operand, two_operands}
use Rattle.nav_list.proofs.put_line.Goals as goal

pub returns-then-first-eq0 : goal.returns-then-first-eq0
returns-then-first-eq0 c = rw (no_operand c.args.line c.if-first-eq0.true) c.put_head-p.ensures

pub returns-then-second-eq0 : goal.returns-then-second-eq0
returns-then-second-eq0 c =
    rw (one_operand c.args.line c.if-first-eq0.false c.if-second-eq0.true)
    (then c.put_head-p.ensures
    (then c.put-a.ensures c.put_operand-q.ensures))

pub returns : goal.returns
returns c =
    rw (two_operands c.args.line c.if-first-eq0.false c.if-second-eq0.false)
    (then c.put_head-p.ensures
    (then c.put-a.ensures
    (then c.put_operand-q.ensures
    (then c.put-b.ensures c.put_operand.ensures))))
