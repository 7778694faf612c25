use Rattle.std.proofs.Common.{◌≡◌, length, take}
use Rattle.lent.proofs.put.Given as goal

abbrev pub invariant-loop-i : goal.invariant-loop-i
invariant-loop-i l = record { long : length l.out ≡ length l.initial.out; same : take l.i l.out ≡ take l.i l.from }
