use Rattle.std.proofs.Common.{◌≡◌}
use Rattle.session.specs.Rules.{titles_live}
use Rattle.session.proofs.titles_live.Given as goal

abbrev pub invariant-loop-at : goal.invariant-loop-at
invariant-loop-at l = titles_live l.titles l.count l.at ≡ titles_live l.titles l.count l.depth
