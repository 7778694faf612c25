use Rattle.std.proofs.Common.{◌≡◌, true}
use Rattle.laws.specs.Firsts.{all_below}
use Rattle.common.proofs.all_below.Given as goal

abbrev pub invariant-loop-b : goal.invariant-loop-b
invariant-loop-b l = all_below l.bound l.s l.b-index ≡ true
