-- What is left of the word says, with the value so far, what the whole says. Assumes nothing.
use Rattle.std.proofs.Common.{length, ◌≡◌, ◌≤◌, drop}
use Rattle.console.specs.Rules.{goes_on_at}
use Rattle.console.proofs.digits_from.Given as goal

abbrev pub invariant-loop-i : goal.invariant-loop-i
invariant-loop-i l = record {
  says : goes_on_at 0 l.at (drop l.at l.word) ≡ goes_on_at l.value l.i (drop l.i l.word);
  fits : l.value ≤ 4294967295;
  none : length l.word ≤ l.at → l.i ≡ l.at;
}
