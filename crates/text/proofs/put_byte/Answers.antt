-- `put_byte` writes inside the room, and past its end only counts. Assumes nothing.
use native.Mathlib.Omega.{arith}
use Rattle.text.proofs.Laws.{byte_in}
use Rattle.text.proofs.put_byte.Goals as goal

pub returns-then-at-out : goal.returns-then-at-out
returns-then-at-out c = byte_in _ _ _ (omega arith) c.if-at-out.true
