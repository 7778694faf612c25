use Rattle.text.specs.Rules.{Wrote, blanks}
use Rattle.text.proofs.put_blanks.Given as goal

abbrev pub invariant-loop : goal.invariant-loop
invariant-loop l = Wrote l.initial.out l.at (blanks l.counter) l.out l.p
