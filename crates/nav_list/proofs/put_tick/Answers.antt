-- `put_tick` writes the tick or nothing. Assumes nothing.
use Rattle.std.proofs.Common.{arith}
use Rattle.text.specs.Laws.{nothing}
use Rattle.nav_list.proofs.put_tick.Goals as goal

pub returns-else-tick : goal.returns-else-tick
returns-else-tick c = rw c.if-tick.false (nothing (omega arith) (omega arith))
