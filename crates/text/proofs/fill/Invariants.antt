use Rattle.text.proofs.Laws.{Filled}
use Rattle.text.proofs.fill.Given as goal

abbrev pub invariant-loop-k : goal.invariant-loop-k
invariant-loop-k l = Filled l.base l.n l.initial.out l.at l.out l.k l.left
