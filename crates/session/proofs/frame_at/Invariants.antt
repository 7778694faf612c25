use Rattle.std.proofs.Common.{◌≡◌, ℕ, ◌+◌, ◌<◌, get_or, length}
use Rattle.session.proofs.frame_at.Given as goal

abbrev pub invariant-loop-i : goal.invariant-loop-i
invariant-loop-i g l = record { long : length l.number-items ≡ l.i-end; read : (k : ℕ) → k < l.i → get_or l.number-items k 0 ≡ get_or l.room (l.at + k) 0 }
