-- The next record starts past this one and inside the input. Assumes nothing.
use Rattle.std.specs.Prelude.{ℕ, ◌≤◌, ◌<◌, Option, IfSome}
use Rattle.replay_commands.specs.declared.Replayed.{Replayed}

abbrev pub Onward : ℕ → ℕ → Option Replayed → Type 0
Onward at end found = IfSome found (λ r. (at < r.next) × (r.next ≤ end))
