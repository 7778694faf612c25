use Rattle.std.proofs.Common.{◌≡◌}
use Rattle.session.specs.Rules.{objects_live}
use Rattle.session.proofs.objects_live.Given as goal

abbrev pub invariant-loop-at : goal.invariant-loop-at
invariant-loop-at l = objects_live l.frames l.count l.at ≡ objects_live l.frames l.count l.depth
