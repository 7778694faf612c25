use Rattle.std.proofs.Common.{◌≡◌}
use Rattle.movie_object.specs.Rules.{place}
use Rattle.movie_object.proofs.place_of.Given as goal

abbrev pub invariant-loop-k : goal.invariant-loop-k
invariant-loop-k l = l.at ≡ place l.file l.k
