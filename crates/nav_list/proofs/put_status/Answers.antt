-- `put_status` writes number, tick and name one after the other. Assumes nothing.
use Rattle.nav_list.specs.Rules.{status_text}
use Rattle.text.specs.Laws.{then}
use Rattle.nav_list.proofs.put_status.Goals as goal

pub returns : goal.returns
unfolding status_text
returns c = then c.put-p.ensures (then c.put_decimal-q.ensures (then c.put_tick-r.ensures c.put_name.ensures))
