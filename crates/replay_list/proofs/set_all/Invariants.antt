use Rattle.std.proofs.Common.{◌≡◌, ◌+◌, ◌*◌}
use Rattle.word.specs.Word.{add_low}
use Rattle.registers.specs.Rules.{banks}
use Rattle.replay_list.specs.Rules.{set_first}
use Rattle.replay_list.proofs.set_all.Given as goal

abbrev pub invariant-loop : goal.invariant-loop
invariant-loop l = record {
  place : l.next ≡ add_low l.at (2 + 7 * l.counter);
  made : banks l.gpr l.psr ≡ set_first l.input l.at l.counter (banks l.initial.gpr l.initial.psr);
}
