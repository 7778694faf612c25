-- What inner functions of the code promise one another, in terms of the rules; none of it has to be believed. Assumes nothing.
use Rattle.std.specs.Prelude.{◌≡◌, List, ℕ, ◌≤◌, length, Ok}
use Rattle.error.specs.Rules.{Verdict}
use Rattle.register_model.specs.Rules.{class_table}
use Rattle.movie_object.specs.Rules.{verdict_of}
use Rattle.movie_object.specs.Pieces.{Placed}

-- What a drive rests on: the class table, an accepted file, the table of its places, banks of their lengths, countable frames.
pub record Ready (classes file places gpr psr frames : List ℕ) : Type 0 where
  pub classed : classes ≡ class_table
  pub fine : verdict_of file ≡ Ok tt
  pub placed : Placed file places
  pub general : length gpr ≡ 4096
  pub status : length psr ≡ 128
  pub room : length frames ≤ 131073

-- What the tests before a drive settle: the first refusal, and, where there is none, all that a drive rests on but the classes.
pub record Settled (file places gpr psr frames : List ℕ) (answer expected : Verdict) : Type 0 where
  pub judged : answer ≡ expected
  pub fine : answer ≡ Ok tt → verdict_of file ≡ Ok tt
  pub placed : answer ≡ Ok tt → Placed file places
  pub general : answer ≡ Ok tt → length gpr ≡ 4096
  pub status : answer ≡ Ok tt → length psr ≡ 128
  pub room : answer ≡ Ok tt → length frames ≤ 131073
