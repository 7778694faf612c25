use Rattle.std.proofs.Common.{◌≡◌, ◌-◌}
use Rattle.movie_object.specs.Laws.{Walking}
use Rattle.movie_object.proofs.walk.Given as goal

abbrev pub invariant-loop-k : goal.invariant-loop-k
invariant-loop-k l =
    record {
      same : l.r.buf ≡ l.initial.r.buf;
      walked : Walking l.r.buf.now l.n l.places l.r.pos l.k;
    }

abbrev pub decreases-loop-k : goal.decreases-loop-k
decreases-loop-k l = l.n - l.k
