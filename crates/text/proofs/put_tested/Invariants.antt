use Rattle.std.proofs.Common.{take}
use Rattle.text.specs.Rules.{Wrote}
use Rattle.text.proofs.put_tested.Given as goal

abbrev pub invariant-loop-byte : goal.invariant-loop-byte
invariant-loop-byte l = Wrote l.initial.out l.at (take l.byte-index l.bytes) l.out l.p
