-- A disc that passes the check, run and resumed (demand 3), and that an outcome allowed is the only one. Assumes nothing.
use Rattle.std.specs.Prelude.{◌≡◌, refl, true, List, [], ◌++◌, ℕ, set, Err, None, Ok, Option, Result, Some}
use Rattle.common.specs.Rules.{be2, be4, bytes2, bytes4, header_of}
use Rattle.index_bdmv.specs.Rules.{app_info_verdict, entry_verdict as indexEntry, entries_verdict, start_of as indexStart, stated_verdict, titles_verdict, indexes_verdict, verdict_of as indexVerdict, title_count, place_of, resolve_of}
use Rattle.movie_object.specs.Rules.{count_of, next, place, body_of, verdict_of, commands_of}
use Rattle.nav_command.specs.Rules.{branch_of, operand_of, command_of}
use Rattle.registers.specs.Rules.{banks}
use Rattle.vm.specs.Rules.{acted, exec_of, step_of, run_from, run_of}
use Rattle.session.specs.declared.Session.{Session}
use Rattle.session.specs.declared.Budgets.{Budgets}
use Rattle.session.specs.Rules.{session, fresh, buffers_verdict, budgets_verdict, entry_verdict, objects_live, titles_live, live_verdict, session_verdict}
use Rattle.mobj_runner.specs.Rules.{returned as objectReturned, turn_of as objectTurn, drive_of}
use Rattle.nav_driver.specs.declared.DriveOutcome.{DriveOutcome}
use Rattle.nav_driver.specs.declared.DriveOutcome.TheVariants as D
use Rattle.nav_driver.specs.declared.Start.{Start}
use Rattle.nav_driver.specs.declared.Start.TheVariants.{Entry, Here}
use Rattle.nav_driver.specs.Rules.{Rooms, rooms, ended, title_value, entered, jumped, called, returned, turn_of, titles_of, bad_number, start_of, go_on_of, verdict_for, answer_of}
use Rattle.disc_check.specs.declared.DiscCheck.{DiscCheck}
use Rattle.disc_check.specs.declared.DiscCheck.TheVariants.{Passed, Offends}
use Rattle.disc_check.specs.Rules.{register_reach, leads_nowhere, command_offends, first_command, first_object, check_of}
use Rattle.one_answer.specs.Laws.{one_answer}
use Rattle.mobj_runner_examples.specs.Discs.{general, status, object, objects}
use Rattle.drive_examples.specs.Discs.{jump_title, play, hdmv, index}
use Rattle.error.specs.declared.Refusal.{Refusal}
use Rattle.nav_driver.specs.declared.DriveEnd.{DriveEnd}

-- what the examples compute with
opened : Unit {0}
unfolding be2 be4 bytes2 bytes4 header_of app_info_verdict indexEntry entries_verdict indexStart stated_verdict titles_verdict indexes_verdict indexVerdict title_count place_of resolve_of count_of next place body_of verdict_of commands_of branch_of operand_of command_of acted exec_of step_of run_from run_of buffers_verdict budgets_verdict entry_verdict objects_live titles_live live_verdict session_verdict objectReturned objectTurn drive_of title_value entered jumped called returned turn_of titles_of bad_number start_of go_on_of verdict_for answer_of register_reach leads_nowhere command_offends first_command first_object check_of
opened = tt

-- first playback and title 1 are object 0, which plays 5 and jumps to a title
abbrev x : List ℕ
x = index 0 0 1 (hdmv 0)

abbrev file : ℕ → List ℕ
file title = objects 1 (object 2 (play 5 ++ jump_title title))

abbrev outcome : DriveOutcome
outcome = D.Play (record { playlist = 5; play_item = None; mark = None })

-- a drive with budgets of two steps, no object and one title
abbrev budgets : Budgets
budgets = record { steps = 2; objects = 0; titles = 1 }

abbrev from : Session → Rooms Session
from s = rooms s (banks general status) [] []

abbrev drive : Start → Session → Rooms (Result DriveEnd Refusal)
drive start s = answer_of x (file 1) budgets start (from s)

-- A passed disc, started at an entry that leads to one of its objects, never ends in bad object or bad title.
pub passes : check_of x (file 1) ≡ Ok Passed
unfolding opened
passes = refl

pub first_run : (drive (Entry 65536) fresh).it ≡ Ok (ended outcome (session 65536 0 1 0 0 true))
unfolding opened
first_run = refl

pub resumed : (drive Here (session 65536 0 1 0 0 true)).it ≡ Ok (ended outcome (session 1 0 1 0 0 true))
unfolding opened
resumed = refl

-- Any two outcomes allowed are equal: of a drive, and of a check of a disc that lacks title 2.
abbrev other_drive : Rooms (Result DriveEnd Refusal)
other_drive = rooms (Ok (ended outcome (session 1 0 1 0 0 true))) (banks general (set status 4 1)) [] []

pub one_drive : rooms (Ok (ended outcome (session 1 0 1 0 0 true))) (banks general (set status 4 1)) [] [] ≡ other_drive
unfolding opened
one_drive = one_answer.driver x (file 1) budgets Here (from (session 65536 0 1 0 0 true)) _ other_drive refl refl

abbrev other_check : Result DiscCheck Refusal
other_check = Ok (Offends 0 1)

pub one_check : (Ok (Offends 0 1)) ≡ other_check
unfolding opened
one_check = one_answer.check x (file 2) (Ok (Offends 0 1)) other_check refl refl
