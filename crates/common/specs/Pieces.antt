-- What inner functions of the code promise one another, in terms of the rules; none of it has to be believed. Assumes nothing.
use Rattle.std.specs.Prelude.{◌≡◌, Bool, true, false, ℕ, ◌≤◌, ◌<◌}

-- r says whether a is at most b
pub record AtMost (a b : ℕ) (r : Bool) : Type 0 where
  pub yes : r ≡ true → a ≤ b
  pub no : r ≡ false → b < a
