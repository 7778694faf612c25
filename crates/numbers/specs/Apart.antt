-- That the numbers of requests and outcomes tell them apart. Assumes nothing.
use Rattle.std.specs.Prelude.{◌≡◌}
use Rattle.nav_command.specs.declared.Operation.{Operation}
use Rattle.nav_command.specs.declared.Operation.TheVariants.{Branch, Compare, Set, System, Unknown}
use Rattle.vm.specs.declared.NavRequest.{NavRequest}
use Rattle.vm.specs.declared.NavRequest.TheVariants as Q
use Rattle.mobj_runner.specs.declared.RunOutcome.{RunOutcome}
use Rattle.mobj_runner.specs.declared.RunOutcome.TheVariants as R
use Rattle.nav_driver.specs.declared.DriveOutcome.{DriveOutcome}
use Rattle.nav_driver.specs.declared.DriveOutcome.TheVariants as D
use Rattle.numbers.specs.Rules.{request_of, run_numbers, drive_numbers}

-- The operation of a system request is a system operation, or unknown in sub-group 1: the machine makes no other.
abbrev pub System1 : Operation → Type 0
System1 (Branch op) = ⊥
System1 (Compare op) = ⊥
System1 (Set op) = ⊥
System1 (System op) = Unit {0}
System1 (Unknown sub code) = sub ≡ 1

abbrev pub Made : NavRequest → Type 0
Made (Q.JumpObject o) = Unit {0}
Made (Q.JumpTitle t) = Unit {0}
Made (Q.CallObject o) = Unit {0}
Made (Q.CallTitle t) = Unit {0}
Made Q.Resume = Unit {0}
Made (Q.PlayPlayList p) = Unit {0}
Made (Q.PlayPlayListAtPlayItem p i) = Unit {0}
Made (Q.PlayPlayListAtMark p m) = Unit {0}
Made Q.TerminatePlayList = Unit {0}
Made (Q.LinkPlayItem i) = Unit {0}
Made (Q.LinkMark m) = Unit {0}
Made (Q.SetSystem op a b) = System1 op

abbrev pub MadeDrive : DriveOutcome → Type 0
MadeDrive D.Finished = Unit {0}
MadeDrive (D.Play p) = Unit {0}
MadeDrive (D.Request q) = Made q
MadeDrive (D.BadTitle t) = Unit {0}
MadeDrive (D.BadObject o) = Unit {0}
MadeDrive D.BudgetExhausted = Unit {0}
MadeDrive D.ObjectStackFull = Unit {0}
MadeDrive D.TitleStackFull = Unit {0}

abbrev pub MadeRun : RunOutcome → Type 0
MadeRun R.Finished = Unit {0}
MadeRun (R.Request q) = Made q
MadeRun (R.BadObject o) = Unit {0}
MadeRun R.BudgetExhausted = Unit {0}
MadeRun R.ObjectStackFull = Unit {0}

abbrev pub ToldApart : Type 0
ToldApart =
    ((a b : NavRequest) → Made a → Made b → request_of a ≡ request_of b → a ≡ b)
    × ((a b : DriveOutcome) → MadeDrive a → MadeDrive b → drive_numbers a ≡ drive_numbers b → a ≡ b)
    × ((a b : RunOutcome) → MadeRun a → MadeRun b → run_numbers a ≡ run_numbers b → a ≡ b)
