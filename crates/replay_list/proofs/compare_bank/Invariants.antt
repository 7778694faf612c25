use Rattle.std.proofs.Common.{◌≡◌, get_or, ℕ}
use Rattle.word.specs.Word.{add_low}
use Rattle.replay_list.specs.Rules.{differing}
use Rattle.replay_list.proofs.compare_bank.Given as goal

abbrev pub invariant-loop-i : goal.invariant-loop-i
invariant-loop-i l = l.wrong ≡ add_low l.start (differing (λ (k : ℕ). get_or l.got k 0) (λ (k : ℕ). get_or l.expected k 0) l.i)
