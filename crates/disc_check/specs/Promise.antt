-- Demand 3: which discs the check passes, and what a passed disc never does. Assumes nothing.
use Rattle.std.specs.Prelude.{◌≡◌, Bool, true, false, List, ◌⊎◌, ℕ, ◌%◌, ◌^◌, ◌<◌, ◌≤◌, leb, length, get_or, Err, Ok, Result}
use Rattle.index_bdmv.specs.Rules.{verdict_of as indexVerdict}
use Rattle.movie_object.specs.Rules.{count_of, commands_of, verdict_of as objectsVerdict}
use Rattle.session.specs.declared.Session.{Session}
use Rattle.session.specs.declared.Budgets.{Budgets}
use Rattle.session.specs.Rules.{object_room, title_room, objects_live, titles_live, session_verdict}
use Rattle.vm.specs.declared.NavRequest.{NavRequest}
use Rattle.vm.specs.declared.NavRequest.TheVariants as Q
use Rattle.vm.specs.declared.Step.{Step}
use Rattle.vm.specs.declared.Step.TheVariants.{Continue, Skipped, Halted, Branch}
use Rattle.vm.specs.Rules.{Banks, step_of}
use Rattle.nav_driver.specs.declared.DriveOutcome.{DriveOutcome}
use Rattle.nav_driver.specs.declared.DriveOutcome.TheVariants as D
use Rattle.nav_driver.specs.declared.DriveEnd.{DriveEnd}
use Rattle.nav_driver.specs.declared.Start.TheVariants.{Entry, Here}
use Rattle.nav_driver.specs.Rules.{Rooms, rooms, answer_of}
use Rattle.disc_check.specs.declared.DiscCheck.TheVariants.{Passed, Offends}
use Rattle.disc_check.specs.Rules.{leads_nowhere, check_of}
use Rattle.error.specs.declared.Refusal.{Refusal}

-- What a request asks for that a disc of n objects lacks: an object, or a title that leads to no object of the disc.
abbrev pub lacks : List ℕ → ℕ → NavRequest → Bool
lacks x n (Q.JumpObject o) = leb n o
lacks x n (Q.CallObject o) = leb n o
lacks x n (Q.JumpTitle t) = leads_nowhere x n (t % 65536)
lacks x n (Q.CallTitle t) = leads_nowhere x n (t % 65536)
lacks x n Q.Resume = false
lacks x n (Q.PlayPlayList p) = false
lacks x n (Q.PlayPlayListAtPlayItem p i) = false
lacks x n (Q.PlayPlayListAtMark p m) = false
lacks x n Q.TerminatePlayList = false
lacks x n (Q.LinkPlayItem i) = false
lacks x n (Q.LinkMark m) = false
lacks x n (Q.SetSystem op a b) = false

-- what one step of the command machine asks for
abbrev pub asking : List ℕ → ℕ → Step → Bool
asking x n Continue = false
asking x n Skipped = false
asking x n Halted = false
asking x n (Branch q) = lacks x n q

-- register contents: both banks, any 32-bit numbers
pub record Contents (s : Banks) : Type 0 where
  pub general : length s.general ≡ 4096
  pub status : length s.status ≡ 128
  pub generals : (i : ℕ) → get_or s.general i 0 < 2 ^ 32
  pub statuses : (i : ℕ) → get_or s.status i 0 < 2 ^ 32

-- command k of object n, met with some register contents, asks for what the disc lacks
pub record Offence (x file : List ℕ) (n k : ℕ) : Type 0 where
  pub regs : Banks
  pub contents : Contents regs
  pub asks : asking x (count_of file) (step_of (commands_of file n) k regs).answer.step ≡ true

abbrev pub Clean : List ℕ → List ℕ → Type 0
Clean x file = (n k : ℕ) → Offence x file n k → ⊥

-- file order, and the first offence in it
abbrev pub Before : ℕ → ℕ → ℕ → ℕ → Type 0
Before m j n k = (m < n) ⊎ ((m ≡ n) × (j < k))

pub record First (x file : List ℕ) (n k : ℕ) : Type 0 where
  pub here : Offence x file n k
  pub none : (m j : ℕ) → Before m j n k → Offence x file m j → ⊥

-- The check passes two readable files exactly if no command offends, and else names the first that does.
pub record Exactly (x file : List ℕ) : Type 0 where
  pub passed : check_of x file ≡ Ok Passed → Clean x file
  pub clean : Clean x file → check_of x file ≡ Ok Passed
  pub names : (n k : ℕ) → check_of x file ≡ Ok (Offends n k) → First x file n k

abbrev pub Exact : Type 0
Exact = (x file : List ℕ) → indexVerdict x ≡ Ok tt → objectsVerdict file ≡ Ok tt → ((i : ℕ) → get_or file i 0 < 256) → Exactly x file

-- Neither bad object nor bad title.

abbrev pub NotBad : DriveOutcome → Type 0
NotBad D.Finished = Unit {0}
NotBad (D.Play p) = Unit {0}
NotBad (D.Request q) = Unit {0}
NotBad (D.BadTitle t) = ⊥
NotBad (D.BadObject o) = ⊥
NotBad D.BudgetExhausted = Unit {0}
NotBad D.ObjectStackFull = Unit {0}
NotBad D.TitleStackFull = Unit {0}

abbrev pub NeverBadAnswer : Result DriveEnd Refusal → Type 0
NeverBadAnswer (Err r) = Unit {0}
NeverBadAnswer (Ok d) = NotBad d.outcome

-- The sessions that a drive passes through: all their objects are on the disc, entries are entries, depths lie within the rooms.
pub record Good (n : ℕ) (f t : List ℕ) (s : Session) : Type 0 where
  pub here : s.object < n
  pub objects : objects_live f n s.odepth ≡ true
  pub object_rooms : s.odepth ≤ object_room f
  pub titles : titles_live t n s.tdepth ≡ true
  pub title_rooms : s.tdepth ≤ title_room t
  pub entry : s.entry ≤ 65537

-- What a run from an entry that leads to an object leaves, and resumes after it, with any registers, budgets and frame room.
pub data Driven (x file : List ℕ) : Session → List ℕ → List ℕ → Type 0 where
  started : (b : Budgets) (e : ℕ) (w : Rooms Session) (d : DriveEnd) → leads_nowhere x (count_of file) e ≡ false
      → (answer_of x file b (Entry e) w).it ≡ Ok d
      → Driven x file d.session (answer_of x file b (Entry e) w).frames (answer_of x file b (Entry e) w).titles
  resumed : (b : Budgets) (s : Session) (r : Banks) (f t : List ℕ) (d : DriveEnd) → Driven x file s f t
      → (answer_of x file b Here (rooms s r f t)).it ≡ Ok d
      → Driven x file d.session (answer_of x file b Here (rooms s r f t)).frames (answer_of x file b Here (rooms s r f t)).titles

-- A passed disc: no run from such an entry and no later resume is bad; every session on the way is good, and never refused.
pub record Promise (x file : List ℕ) : Type 0 where
  pub runs : (b : Budgets) (e : ℕ) (w : Rooms Session) → leads_nowhere x (count_of file) e ≡ false → NeverBadAnswer (answer_of x file b (Entry e) w).it
  pub resumes : (b : Budgets) (s : Session) (r : Banks) (f t : List ℕ) → Driven x file s f t → NeverBadAnswer (answer_of x file b Here (rooms s r f t)).it
  pub good : (s : Session) (f t : List ℕ) → Driven x file s f t → Good (count_of file) f t s
  pub accepted : (s : Session) (f t : List ℕ) → Driven x file s f t → session_verdict f t (count_of file) s s.pending ≡ Ok tt

abbrev pub NeverBad : Type 0
NeverBad = (x file : List ℕ) → check_of x file ≡ Ok Passed → Promise x file
