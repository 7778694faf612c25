-- Byte by byte: after i turns the first i of them stand there. Assumes nothing.
use Rattle.std.proofs.Common.{arith}
use Rattle.text.specs.Laws.{nothing}
use Rattle.text.proofs.Laws.{tested}
use Rattle.text.proofs.put_tested.Goals as goal

pub loop-byte-init : goal.loop-byte-init
loop-byte-init c = nothing (omega arith) (omega arith)

pub loop-byte-preserved : goal.loop-byte-preserved
loop-byte-preserved c = tested c.args.bytes.now c.loop-byte.byte-index c.loop-byte-test.true c.loop-byte.invariant c.put_byte-p.ensures
