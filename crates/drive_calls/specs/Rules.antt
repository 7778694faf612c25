-- What the calls for C of the drives and the check hand back and leave, by `numbers`; a refusal alters nothing. Assumes nothing.
use Rattle.std.specs.Prelude.{List, cond, ℕ, Err, None, Ok, Option, Result, Some}
use Rattle.error.specs.Rules.{number_of}
use Rattle.error.specs.declared.Refusal.TheVariants.{BadBuffer}
use Rattle.numbers.specs.Rules.{run_numbers, check_numbers, session_numbers, session_of, budgets_of, drive_numbers}
use Rattle.vm.specs.Rules.{Banks}
use Rattle.mobj_runner.specs.Rules.{World, world, answer_of as runnerAnswer}
use Rattle.mobj_runner.specs.declared.Start.{Start as RunnerStart}
use Rattle.disc_check.specs.Rules.{check_of}
use Rattle.disc_check.specs.declared.DiscCheck.{DiscCheck}
use Rattle.disc_check.specs.declared.DiscCheck.TheVariants as C
use Rattle.nav_driver.specs.Rules.{Rooms, rooms, answer_of as driverAnswer}
use Rattle.nav_driver.specs.declared.Start.{Start}
use Rattle.lent.specs.Rules.{lengths_fit, Ended, ended, Handed, handed, refused, into}
use Rattle.error.specs.declared.Refusal.{Refusal}
use Rattle.mobj_runner.specs.declared.RunEnd.{RunEnd}
use Rattle.nav_driver.specs.declared.DriveEnd.{DriveEnd}

-- ---- the runner

abbrev pub ran_by : Result RunEnd Refusal → List ℕ → List ℕ → Ended
ran_by (Ok e) s o = ended 0 (session_numbers e.session) (run_numbers e.outcome)
ran_by (Err r) s o = ended (number_of r) s o

abbrev pub runner_by : World (Result RunEnd Refusal) → List ℕ → List ℕ → World Ended
runner_by w s o = world (ran_by w.it s o) w.regs w.frames

unfoldable pub runner_call : List ℕ → List ℕ → RunnerStart → List ℕ → Banks → List ℕ → List ℕ → List ℕ → World Ended
runner_call file titles start b regs frames s o =
    cond (lengths_fit b s o)
    (runner_by (runnerAnswer file (budgets_of b) titles start (world (session_of s) regs frames)) s o)
    (world (ended (number_of BadBuffer) s o) regs frames)

-- ---- the driver

abbrev pub drove_by : Result DriveEnd Refusal → List ℕ → List ℕ → Ended
drove_by (Ok e) s o = ended 0 (session_numbers e.session) (drive_numbers e.outcome)
drove_by (Err r) s o = ended (number_of r) s o

abbrev pub driver_by : Rooms (Result DriveEnd Refusal) → List ℕ → List ℕ → Rooms Ended
driver_by w s o = rooms (drove_by w.it s o) w.regs w.frames w.titles

unfoldable pub driver_call : List ℕ → List ℕ → Start → List ℕ → Banks → List ℕ → List ℕ → List ℕ → List ℕ → Rooms Ended
driver_call x file start b regs frames titles s o =
    cond (lengths_fit b s o)
    (driver_by (driverAnswer x file (budgets_of b) start (rooms (session_of s) regs frames titles)) s o)
    (rooms (ended (number_of BadBuffer) s o) regs frames titles)

-- ---- the disc check

abbrev pub checked_by : Result DiscCheck Refusal → List ℕ → Handed
checked_by (Ok C.Passed) l = handed 0 (check_numbers (Ok C.Passed))
checked_by (Ok (C.Offends o k)) l = handed 0 (check_numbers (Ok (C.Offends o k)))
checked_by (Err r) l = refused r l

unfoldable pub check_call : List ℕ → List ℕ → List ℕ → Handed
check_call x file l = into 3 l (checked_by (check_of x file) l)
