-- What inner functions of the code promise one another, in terms of the rules; none of it has to be believed. Assumes nothing.
use Rattle.std.specs.Prelude.{◌≡◌, List, ℕ, ◌≤◌, length, Result, Ok, Err}
use Rattle.error.specs.Rules.{Verdict, fine}
use Rattle.error.specs.declared.Refusal.{Refusal}
use Rattle.index_bdmv.specs.Rules.{verdict_of as index_verdict}
use Rattle.movie_object.specs.Rules.{verdict_of as objects_verdict}
use Rattle.movie_object.specs.Pieces.{Placed}
use Rattle.mobj_runner.specs.Pieces.{Ready}
use Rattle.nav_driver.specs.declared.Disc.{Disc}

-- What a drive rests on: what its object side does, an index file that is read, and title frames that can be counted.
pub record Able (classes x file places gpr psr frames titles : List ℕ) : Type 0 where
  pub objects : Ready classes file places gpr psr frames
  pub index : index_verdict x ≡ Ok tt
  pub room : length titles ≤ 196610

-- What the tests before a drive settle: the first refusal, and, where there is none, all that it rests on but the classes.
pub record Settled (x file places gpr psr frames titles : List ℕ) (answer expected : Verdict) : Type 0 where
  pub judged : answer ≡ expected
  pub index : answer ≡ Ok tt → index_verdict x ≡ Ok tt
  pub fine : answer ≡ Ok tt → objects_verdict file ≡ Ok tt
  pub placed : answer ≡ Ok tt → Placed file places
  pub general : answer ≡ Ok tt → length gpr ≡ 4096
  pub status : answer ≡ Ok tt → length psr ≡ 128
  pub room : answer ≡ Ok tt → (length frames ≤ 131073) × (length titles ≤ 196610)

-- What a drive rests on beside its disc: frames of both kinds that can be counted.
pub record Roomy (frames titles : List ℕ) : Type 0 where
  pub frames_few : length frames ≤ 131073
  pub titles_few : length titles ≤ 196610

-- What reading a disc answers that a verdict refuses, or else finds read.
abbrev pub Opens : Verdict → List ℕ → List ℕ → Result Disc Refusal → Type 0
Opens v x file (Ok d) = (v ≡ fine) × (d.index ≡ x) × (d.objects ≡ file)
Opens v x file (Err r) = v ≡ Err r
