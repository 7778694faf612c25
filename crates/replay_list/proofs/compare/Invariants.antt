use Rattle.std.proofs.Common.{◌≡◌, ◌*◌}
use Rattle.word.specs.Word.{add_low}
use Rattle.replay_list.specs.Rules.{listed_differences}
use Rattle.replay_list.proofs.compare.Given as goal

abbrev pub invariant-loop-x : goal.invariant-loop-x
invariant-loop-x l = record {
  place : l.next ≡ add_low l.fn.start.next (4 * l.x-index);
  counted : l.wrong ≡ add_low l.fn.start.wrong (listed_differences l.got l.input l.fn.start.next l.x-index);
}
