-- After i turns i blanks stand there. Assumes nothing.
use Rattle.std.proofs.Common.{arith}
use Rattle.text.specs.Laws.{nothing}
use Rattle.text.proofs.Laws.{blanked}
use Rattle.text.proofs.put_blanks.Goals as goal

pub loop-init : goal.loop-init
loop-init c = nothing (omega arith) (omega arith)

pub loop-preserved : goal.loop-preserved
loop-preserved c = blanked c.loop.counter c.loop.invariant c.put_byte-p.ensures
