-- `put_numeral` writes a numeral straight into the room, or from a local array where the room ends. Assumes nothing.
use Rattle.std.proofs.Common.{arith}
use Rattle.text.specs.Rules.{numeral}
use Rattle.text.proofs.Laws.{counted, at_start}
use Rattle.text.proofs.put_numeral.Goals as goal

pub returns-then-has_room : goal.returns-then-has_room
returns-then-has_room c = counted c.digits-count.result (omega arith) c.digits-count.ensures.0 (c.has_room.ensures c.if-has_room.true) c.fill.ensures

pub returns-else-has_room : goal.returns-else-has_room
returns-else-has_room c = rw (at_start _ _ (numeral c.args.base c.args.n) c.digits-count.result c.fill-else-has_room.ensures c.digits-count.ensures.0 (omega arith)) at c.put_tested.ensures
