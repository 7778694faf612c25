-- `put` writes all the bytes, by the plain copy or the tested one. Assumes nothing.
use mathlib.Core.Path.{refl}
use native.Mathlib.Omega.{arith}
use Rattle.text.proofs.Laws.{wrote}
use Rattle.text.proofs.put.Goals as goal

pub returns-then-has_room : goal.returns-then-has_room
returns-then-has_room c = wrote (omega arith) (c.has_room.ensures c.if-has_room.true) c.copy.ensures refl
