use Rattle.std.proofs.Common.{◌≡◌, ◌*◌, ◌≤◌}
use Rattle.laws.specs.Firsts.{sum}
use Rattle.movie_object_write.proofs.total.Given as goal

abbrev pub invariant-loop-count : goal.invariant-loop-count
invariant-loop-count l = (l.n ≡ sum l.counts l.count-index) × (l.n ≤ 4294967295 * l.count-index)
