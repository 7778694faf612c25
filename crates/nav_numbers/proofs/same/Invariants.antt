use Rattle.std.proofs.Common.{◌≡◌, true}
use Rattle.laws.specs.Firsts.{all}
use Rattle.nav_numbers.specs.Rules.{same_at}
use Rattle.nav_numbers.proofs.same.Given as goal

abbrev pub invariant-loop-k : goal.invariant-loop-k
invariant-loop-k l = all (same_at l.a l.b) l.k ≡ true
