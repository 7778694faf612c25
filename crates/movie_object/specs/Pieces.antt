-- What inner functions of the code promise one another, in terms of the rules; none of it has to be believed. Assumes nothing.
use Rattle.std.specs.Prelude.{◌≡◌, List, ℕ, ◌≤◌, ◌<◌, length, get_or, Ok}
use Rattle.error.specs.Rules.{Verdict}
use Rattle.movie_object.specs.Rules.{count_of, place, verdict_of}

-- A table that holds where each object stands.
pub record Placed (file places : List ℕ) : Type 0 where
  pub room : count_of file ≤ length places
  pub at : (k : ℕ) → k < count_of file → get_or places k 0 ≡ place file k

-- A walk of the heads judges the file; where it is accepted and the table has room, the table holds the places.
pub record Walked (file places : List ℕ) (answer : Verdict) : Type 0 where
  pub judged : answer ≡ verdict_of file
  pub placed : answer ≡ Ok tt → count_of file ≤ length places → Placed file places
