-- The numbers of answers and sessions (document 01: "this paper's number and values for every case"). Assumes nothing.
use Rattle.std.specs.Prelude.{not, List, [], ◌∷◌, ℕ, eqb, get_or, Err, None, Ok, Option, Result, Some}
use Rattle.error.specs.Rules.{number_of as refusalNumber}
use Rattle.nav_command.specs.declared.BranchOp.{BranchOp}
use Rattle.nav_command.specs.declared.BranchOp.TheVariants as B
use Rattle.nav_command.specs.declared.Operation.TheVariants.{Branch}
use Rattle.nav_command.specs.Rules.{number_of}
use Rattle.nav_numbers.specs.declared.Pair.{Pair}
use Rattle.nav_numbers.specs.Rules.{flag_number, pair, unknown_of}
use Rattle.vm.specs.declared.NavRequest.{NavRequest}
use Rattle.vm.specs.declared.NavRequest.TheVariants as Q
use Rattle.vm.specs.declared.Step.{Step}
use Rattle.vm.specs.declared.Step.TheVariants as step
use Rattle.mobj_runner.specs.declared.RunOutcome.{RunOutcome}
use Rattle.mobj_runner.specs.declared.RunOutcome.TheVariants as R
use Rattle.nav_driver.specs.declared.DriveOutcome.{DriveOutcome}
use Rattle.nav_driver.specs.declared.DriveOutcome.TheVariants as D
use Rattle.disc_check.specs.declared.DiscCheck.{DiscCheck}
use Rattle.disc_check.specs.declared.DiscCheck.TheVariants as C
use Rattle.session.specs.declared.Session.{Session}
use Rattle.session.specs.declared.Budgets.{Budgets}
use Rattle.session.specs.Rules.{session}
use Rattle.numbers.specs.declared.Request.{Request}
use Rattle.error.specs.declared.Refusal.{Refusal}

-- ---- requests

-- A request: its operation's place on the sheet, two operands, and the code of an unknown one; 0 for what it doesn't have.
abbrev pub request : ℕ → ℕ → ℕ → ℕ → Request
request op a b code = record { op = op; first = a; second = b; code = code }

abbrev pub asking : BranchOp → ℕ → ℕ → Request
asking op a b = request (number_of (Branch op)) a b 0

abbrev pub request_of : NavRequest → Request
request_of (Q.JumpObject o) = asking B.JumpObject o 0
request_of (Q.JumpTitle t) = asking B.JumpTitle t 0
request_of (Q.CallObject o) = asking B.CallObject o 0
request_of (Q.CallTitle t) = asking B.CallTitle t 0
request_of Q.Resume = asking B.Resume 0 0
request_of (Q.PlayPlayList p) = asking B.PlayPL p 0
request_of (Q.PlayPlayListAtPlayItem p i) = asking B.PlayPLatPlayItem p i
request_of (Q.PlayPlayListAtMark p m) = asking B.PlayPLatMark p m
request_of Q.TerminatePlayList = asking B.TerminatePL 0 0
request_of (Q.LinkPlayItem i) = asking B.LinkPI i 0
request_of (Q.LinkMark m) = asking B.LinkMK m 0
request_of (Q.SetSystem op a b) = request (number_of op) a b (unknown_of op).value

-- ---- what one command, or a run of commands, answers

abbrev pub branching : Request → List ℕ
branching q = 3 ∷ q.op ∷ q.first ∷ q.second ∷ q.code ∷ []

abbrev pub step_numbers : Step → List ℕ
step_numbers step.Continue = 0 ∷ 0 ∷ 0 ∷ 0 ∷ 0 ∷ []
step_numbers step.Skipped = 1 ∷ 0 ∷ 0 ∷ 0 ∷ 0 ∷ []
step_numbers step.Halted = 2 ∷ 0 ∷ 0 ∷ 0 ∷ 0 ∷ []
step_numbers (step.Branch q) = branching (request_of q)

-- ---- the outcomes of the runner and of the driver, in one numbering

abbrev pub bare : ℕ → List ℕ
bare kind = kind ∷ 0 ∷ 0 ∷ 0 ∷ 0 ∷ 0 ∷ []

abbrev pub bad : ℕ → ℕ → List ℕ
bad kind n = kind ∷ n ∷ 0 ∷ 0 ∷ 0 ∷ 0 ∷ []

abbrev pub requesting : Request → List ℕ
requesting q = 2 ∷ q.op ∷ q.first ∷ q.second ∷ q.code ∷ 0 ∷ []

-- 1 with what is given, or 0 and 0
abbrev pub option_of : Option ℕ → Pair
option_of None = pair 0 0
option_of (Some n) = pair 1 n

abbrev pub playing : ℕ → Pair → Pair → List ℕ
playing p item mark = 1 ∷ p ∷ item.kind ∷ item.value ∷ mark.kind ∷ mark.value ∷ []

abbrev pub drive_numbers : DriveOutcome → List ℕ
drive_numbers D.Finished = bare 0
drive_numbers (D.Play p) = playing p.playlist (option_of p.play_item) (option_of p.mark)
drive_numbers (D.Request q) = requesting (request_of q)
drive_numbers (D.BadTitle t) = bad 3 t
drive_numbers (D.BadObject o) = bad 4 o
drive_numbers D.BudgetExhausted = bare 5
drive_numbers D.ObjectStackFull = bare 6
drive_numbers D.TitleStackFull = bare 7

abbrev pub run_numbers : RunOutcome → List ℕ
run_numbers R.Finished = bare 0
run_numbers (R.Request q) = requesting (request_of q)
run_numbers (R.BadObject o) = bad 4 o
run_numbers R.BudgetExhausted = bare 5
run_numbers R.ObjectStackFull = bare 6

-- ---- the disc check: passed, or the first offending object and command, or refused

abbrev pub check_numbers : Result DiscCheck Refusal → List ℕ
check_numbers (Ok C.Passed) = 0 ∷ 0 ∷ 0 ∷ []
check_numbers (Ok (C.Offends o k)) = 1 ∷ o ∷ k ∷ []
check_numbers (Err r) = 2 ∷ refusalNumber r ∷ 0 ∷ []

-- ---- a session: entry, object, pc, object depth, title depth, pending; and back, where any number but 0 is pending

abbrev pub session_numbers : Session → List ℕ
session_numbers s = s.entry ∷ s.object ∷ s.pc ∷ s.odepth ∷ s.tdepth ∷ flag_number s.pending ∷ []

abbrev pub session_of : List ℕ → Session
session_of l = session (get_or l 0 0) (get_or l 1 0) (get_or l 2 0) (get_or l 3 0) (get_or l 4 0) (not (eqb (get_or l 5 0) 0))

-- Budgets: steps, objects, titles.
abbrev pub budget_numbers : Budgets → List ℕ
budget_numbers b = b.steps ∷ b.objects ∷ b.titles ∷ []

abbrev pub budgets_of : List ℕ → Budgets
budgets_of l = record { steps = get_or l 0 0; objects = get_or l 1 0; titles = get_or l 2 0 }
