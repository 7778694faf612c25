use Rattle.std.proofs.Common.{◌-◌, ◌≤◌}
use Rattle.movie_object.specs.Laws.{Walking}
use Rattle.movie_object.proofs.skip_alike.Given as goal

abbrev pub invariant-loop-i : goal.invariant-loop-i
invariant-loop-i l =
    record {
      past : l.k ≤ l.i;
      walked : Walking l.file l.n l.places l.at l.i;
    }

abbrev pub decreases-loop-i : goal.decreases-loop-i
decreases-loop-i l = l.n - l.i
