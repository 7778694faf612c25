-- Examples of drives of titles (document 01, "Objects and titles"). Assumes nothing.
use Rattle.std.specs.Prelude.{◌≡◌, refl, true, false, List, [], ◌∷◌, ◌++◌, ℕ, set, Err, None, Ok, Option, Result, Some}
use Rattle.common.specs.Rules.{be2, be4, bytes2, bytes4, header_of}
use Rattle.error.specs.declared.Refusal.TheVariants.{BadSession}
use Rattle.index_bdmv.specs.Rules.{app_info_verdict, entry_verdict as indexEntry, entries_verdict, start_of as indexStart, stated_verdict, titles_verdict, indexes_verdict, verdict_of as indexVerdict, title_count, place_of, resolve_of}
use Rattle.movie_object.specs.Rules.{count_of, next, place, body_of, verdict_of, commands_of}
use Rattle.nav_command.specs.Rules.{branch_of, set_of as set_code, operand_of, command_of}
use Rattle.registers.specs.Rules.{Banks, banks, written, applied, set_of}
use Rattle.vm.specs.Rules.{exec_set, acted, exec_of, step_of, run_from, run_of}
use Rattle.session.specs.declared.Session.{Session}
use Rattle.session.specs.Rules.{session, fresh, buffers_verdict, budgets_verdict, entry_verdict, objects_live, titles_live, live_verdict, session_verdict}
use Rattle.mobj_runner.specs.Rules.{returned as objectReturned, turn_of as objectTurn, drive_of}
use Rattle.nav_driver.specs.declared.DriveOutcome.{DriveOutcome}
use Rattle.nav_driver.specs.declared.DriveOutcome.TheVariants.{BudgetExhausted, Finished, Play, BadTitle, BadObject, TitleStackFull}
use Rattle.nav_driver.specs.declared.Start.{Start}
use Rattle.nav_driver.specs.declared.Start.TheVariants.{Entry, Here}
use Rattle.nav_driver.specs.Rules.{Rooms, rooms, ended, title_value, entered, jumped, called, returned, turn_of, titles_of, bad_number, start_of, go_on_of, verdict_for, answer_of}
use Rattle.mobj_runner_examples.specs.Discs.{general, status, object, objects}
use Rattle.drive_examples.specs.Discs.{move, jump_title, call_title, play, hdmv, index}
use Rattle.error.specs.declared.Refusal.{Refusal}
use Rattle.nav_driver.specs.declared.DriveEnd.{DriveEnd}

-- what the examples compute with
opened : Unit {0}
unfolding be2 be4 bytes2 bytes4 header_of app_info_verdict indexEntry entries_verdict indexStart stated_verdict titles_verdict indexes_verdict indexVerdict title_count place_of resolve_of count_of next place body_of verdict_of commands_of branch_of set_code operand_of command_of written applied set_of exec_set acted exec_of step_of run_from run_of buffers_verdict budgets_verdict entry_verdict objects_live titles_live live_verdict session_verdict objectReturned objectTurn drive_of title_value entered jumped called returned turn_of titles_of bad_number start_of go_on_of verdict_for answer_of
opened = tt

-- object 0 jumps to title 65,537, 1 sets r5 to 16 and plays 5, and 2 calls title 2
abbrev file : List ℕ
file = objects 3 (object 1 (jump_title 65537) ++ object 2 (move 5 16 ++ play 5) ++ object 1 (call_title 2))

-- first playback is object 0, top menu object 3, which is not on the disc, title 1 object 1, title 2 object 2
abbrev x : List ℕ
x = index 0 3 2 (hdmv 1 ++ hdmv 2)

-- a drive with budgets of two steps, no object and so many titles, and what it leaves
abbrev drive : ℕ → Start → Rooms Session → Rooms (Result DriveEnd Refusal)
drive titles start w = answer_of x file (record { steps = 2; objects = 0; titles = titles }) start w

abbrev leaves : DriveOutcome → Session → Banks → List ℕ → List ℕ → Rooms (Result DriveEnd Refusal)
leaves outcome s r f t = rooms (Ok (ended outcome s)) r f t

-- JumpTitle 65,537 goes to title 1, and register 4 gets its number.
pub jump_to_title_65537 : drive 1 (Entry 65536) (rooms fresh (banks general status) [] [])
    ≡ leaves (Play (record { playlist = 5; play_item = None; mark = None })) (session 1 1 2 0 0 true) (banks (set general 5 16) (set status 4 1)) [] []
unfolding opened
jump_to_title_65537 = refl

-- Starting the object of an entry clears the object frames.
pub start_in_a_call : drive 0 (Entry 2) (rooms (session 65536 2 1 1 0 false) (banks general status) (0 ∷ 1 ∷ []) [])
    ≡ leaves BudgetExhausted (session 2 2 1 0 0 false) (banks general (set status 4 2)) (0 ∷ 1 ∷ []) []
unfolding opened
start_in_a_call = refl

-- Title stack full: nothing is pushed, pc stays past the call, not pending.
pub full_title_stack : drive 2 (Entry 2) (rooms fresh (banks general status) [] (7 ∷ 7 ∷ 7 ∷ []))
    ≡ leaves TitleStackFull (session 2 2 1 0 1 false) (banks general (set status 4 2)) [] (2 ∷ 2 ∷ 1 ∷ [])
unfolding opened
full_title_stack = refl

-- Title 0 never resolves.
pub title_0 : drive 0 (Entry 0) (rooms fresh (banks general status) [] []) ≡ leaves (BadTitle 0) fresh (banks general status) [] []
unfolding opened
title_0 = refl

-- A bad object: the frames, current object and pc stay, while entry and register 4 stand.
pub bad_object : drive 0 (Entry 65537) (rooms (session 1 1 2 1 0 true) (banks general status) (0 ∷ 1 ∷ []) [])
    ≡ leaves (BadObject 3) (session 65537 1 2 1 0 false) (banks general (set status 4 65535)) (0 ∷ 1 ∷ []) []
unfolding opened
bad_object = refl

-- A title frame gives back entry, register 4, object and pc.
pub return_to_the_caller : drive 1 Here (rooms (session 1 1 2 0 1 true) (banks general (set status 4 1)) [] (65536 ∷ 0 ∷ 1 ∷ []))
    ≡ leaves Finished (session 65536 0 1 0 0 false) (banks general status) [] (65536 ∷ 0 ∷ 1 ∷ [])
unfolding opened
return_to_the_caller = refl

-- A depth exceeds its room; a refusal alters nothing.
pub no_such_frame : drive 1 Here (rooms (session 1 1 2 0 1 true) (banks general status) [] []) ≡ rooms (Err BadSession) (banks general status) [] []
unfolding opened
no_such_frame = refl

-- A resume without pending answers finished.
pub nothing_pending : drive 1 Here (rooms fresh (banks general status) [] []) ≡ leaves Finished fresh (banks general status) [] []
unfolding opened
nothing_pending = refl
