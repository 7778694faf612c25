use Rattle.std.proofs.Common.{◌≡◌, take}
use Rattle.laws.specs.Over.{over}
use Rattle.common.proofs.put_bytes.Given as goal

abbrev pub invariant-loop-i : goal.invariant-loop-i
invariant-loop-i l = l.out ≡ over l.initial.out l.at (take l.i l.src)
