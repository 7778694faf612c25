-- Examples of the numbers of answers and of sessions (include/mescjadro.h gives the number and values of every case). Assumes nothing.
use Rattle.std.specs.Prelude.{◌≡◌, refl, true, false, [], ◌∷◌, Err, None, Ok, Some}
use Rattle.nav_command.specs.declared.SystemOp.TheVariants.{PopUpOff}
use Rattle.nav_command.specs.declared.Operation.TheVariants.{System, Unknown}
use Rattle.vm.specs.declared.NavRequest.{NavRequest}
use Rattle.vm.specs.declared.NavRequest.TheVariants.{JumpTitle, PlayPlayListAtMark, LinkPlayItem, SetSystem}
use Rattle.vm.specs.declared.Step.TheVariants.{Skipped, Branch}
use Rattle.session.specs.Rules.{session, defaults}
use Rattle.mobj_runner.specs.declared.RunOutcome.TheVariants as R
use Rattle.nav_driver.specs.declared.DriveOutcome.{DriveOutcome}
use Rattle.nav_driver.specs.declared.DriveOutcome.TheVariants as D
use Rattle.disc_check.specs.declared.DiscCheck.TheVariants.{Passed, Offends}
use Rattle.numbers.specs.Rules.{request, request_of, step_numbers, drive_numbers, run_numbers, check_numbers, session_numbers, session_of, budget_numbers, budgets_of}
use Rattle.numbers.proofs.Apart.{told_apart}

-- A request: 11 PlayPLatMark, with the values of operand 1, a playlist, and of operand 2, a mark.
play_at_mark : request_of (PlayPlayListAtMark 3 9) ≡ request 11 3 9 0
play_at_mark = refl

-- A system request: 43 PopUpOff.
pop_up_off : request_of (SetSystem (System PopUpOff) 5 6) ≡ request 43 5 6 0
pop_up_off = refl

-- 0 for one whose code is unknown, and the code.
unknown_code : request_of (SetSystem (Unknown 1 0x33) 5 6) ≡ request 0 5 6 0x33
unknown_code = refl

-- What a command answers: 1 skipped.
skipped : step_numbers Skipped ≡ 1 ∷ 0 ∷ 0 ∷ 0 ∷ 0 ∷ []
skipped = refl

-- 3 branch, and its request: 5 JumpTitle, with the whole title.
branch : step_numbers (Branch (JumpTitle 65537)) ≡ 3 ∷ 5 ∷ 65537 ∷ 0 ∷ 0 ∷ []
branch = refl

-- What a drive answers: 1 play, with the playlist, no play item, and a mark.
play : drive_numbers (D.Play (record { playlist = 5; play_item = None; mark = Some 2 })) ≡ 1 ∷ 5 ∷ 0 ∷ 0 ∷ 1 ∷ 2 ∷ []
play = refl

-- 3 bad title, with the title.
bad_title : drive_numbers (D.BadTitle 7) ≡ 3 ∷ 7 ∷ 0 ∷ 0 ∷ 0 ∷ 0 ∷ []
bad_title = refl

-- 7 title stack full.
full_titles : drive_numbers D.TitleStackFull ≡ 7 ∷ 0 ∷ 0 ∷ 0 ∷ 0 ∷ 0 ∷ []
full_titles = refl

-- The runner's outcomes have the same numbers: 2 request, here 13 LinkPI, and 6 object stack full.
asked : run_numbers (R.Request (LinkPlayItem 4)) ≡ 2 ∷ 13 ∷ 4 ∷ 0 ∷ 0 ∷ 0 ∷ []
asked = refl

full_objects : run_numbers R.ObjectStackFull ≡ 6 ∷ 0 ∷ 0 ∷ 0 ∷ 0 ∷ 0 ∷ []
full_objects = refl

-- The disc check: 0, 0, 0 if no command offends; else 1, and the object and the command of the first.
passed : check_numbers (Ok Passed) ≡ 0 ∷ 0 ∷ 0 ∷ []
passed = refl

offends : check_numbers (Ok (Offends 3 8)) ≡ 1 ∷ 3 ∷ 8 ∷ []
offends = refl

-- A session: entry, object, pc, object frames live, title frames live, pending.
session_told : session_numbers (session 65537 1 2 3 4 true) ≡ 65537 ∷ 1 ∷ 2 ∷ 3 ∷ 4 ∷ 1 ∷ []
session_told = refl

-- Any number but 0 is pending.
session_read : session_of (65537 ∷ 1 ∷ 2 ∷ 3 ∷ 4 ∷ 9 ∷ []) ≡ session 65537 1 2 3 4 true
session_read = refl

at_rest : session_of (5 ∷ 0 ∷ 0 ∷ 0 ∷ 0 ∷ 0 ∷ []) ≡ session 5 0 0 0 0 false
at_rest = refl

-- Budgets: steps, objects, titles.
budgets_told : budget_numbers defaults ≡ 1000000 ∷ 100000 ∷ 10000 ∷ []
budgets_told = refl

budgets_read : budgets_of (5 ∷ 6 ∷ 7 ∷ []) ≡ record { steps = 5; objects = 6; titles = 7 }
budgets_read = refl

-- Requests with the same numbers are equal, and so are outcomes.
abbrev other_request : NavRequest
other_request = SetSystem (Unknown 1 0x33) 5 6

one_request : SetSystem (Unknown 1 0x33) 5 6 ≡ other_request
one_request = told_apart.0 (SetSystem (Unknown 1 0x33) 5 6) other_request refl refl refl

abbrev other_outcome : DriveOutcome
other_outcome = D.BadTitle 7

one_outcome : D.BadTitle 7 ≡ other_outcome
one_outcome = told_apart.1 (D.BadTitle 7) other_outcome tt tt refl
