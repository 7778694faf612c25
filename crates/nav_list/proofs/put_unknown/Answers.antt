-- `put_unknown` writes its five parts one after the other. Assumes nothing.
use Rattle.nav_list.specs.Rules.{unknown_text}
use Rattle.text.specs.Laws.{then}
use Rattle.nav_list.proofs.put_unknown.Goals as goal

pub returns : goal.returns
unfolding unknown_text
returns c = then c.put-p.ensures (then (rw c.from.ensures at c.put_decimal-q.ensures) (then c.put-r.ensures (then (rw c.from-2.ensures at c.put_hex-s.ensures) c.put.ensures)))
