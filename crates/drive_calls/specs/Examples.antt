-- Examples of what the runner, the driver and the disc check hand out (include/mescjadro.h). Assumes nothing.
use Rattle.std.specs.Prelude.{◌≡◌, refl, List, [], ◌∷◌, ◌++◌, ℕ, set, replicate}
use Rattle.laws.specs.Firsts.{sum, blocks}
use Rattle.common.specs.Rules.{be2, be4, bytes2, bytes4, header_of}
use Rattle.index_bdmv.specs.Rules.{app_info_verdict, entry_verdict as indexEntry, entries_verdict, start_of as indexStart, stated_verdict, titles_verdict, indexes_verdict, verdict_of as indexVerdict, title_count, place_of, resolve_of}
use Rattle.index_bdmv_write.specs.Rules as index
use Rattle.movie_object.specs.Rules.{count_of, next, place, body_of, verdict_of, commands_of}
use Rattle.movie_object_write.specs.Rules.{cmds_at, object_bytes, object, head_bytes, size_of, file_of}
use Rattle.nav_command.specs.Rules.{branch_of, set_of as set_code, operand_of, command_of}
use Rattle.registers.specs.Rules.{banks, fresh_general, fresh_status, written, applied, set_of}
use Rattle.vm.specs.Rules.{exec_set, acted, exec_of, step_of, run_from, run_of}
use Rattle.session.specs.Rules.{buffers_verdict, budgets_verdict, entry_verdict, objects_live, titles_live, live_verdict, session_verdict}
use Rattle.mobj_runner.specs.declared.Start.TheVariants as runner
use Rattle.mobj_runner.specs.Rules as objects
use Rattle.nav_driver.specs.declared.Start.TheVariants.{Entry, Here}
use Rattle.nav_driver.specs.Rules.{rooms, title_value, entered, returned, turn_of, titles_of, start_of, go_on_of, verdict_for, answer_of}
use Rattle.disc_check.specs.Rules.{leads_nowhere, command_offends, first_command, first_object, check_of}
use Rattle.lent.specs.Rules.{ended, lengths_fit, handed}
use Rattle.drive_calls.specs.Rules.{driver_call, runner_call, check_call}
use Rattle.index_calls.specs.Rules.{app_of}
use Rattle.player_calls.specs.Examples.{command, p2}

-- what the examples compute with
opened : Unit {0}
unfolding sum blocks be2 be4 bytes2 bytes4 header_of app_info_verdict indexEntry entries_verdict indexStart stated_verdict titles_verdict indexes_verdict indexVerdict title_count place_of resolve_of index.titles_of index.tail_bytes index.entry_bytes index.entry_of_record index.head_bytes index.special_bytes index.file_of count_of next place body_of verdict_of commands_of cmds_at object_bytes object head_bytes size_of file_of branch_of set_code operand_of command_of written applied set_of exec_set acted exec_of step_of run_from run_of buffers_verdict budgets_verdict entry_verdict objects_live titles_live live_verdict session_verdict objects.returned objects.turn_of objects.drive_of objects.start_of objects.verdict_for objects.answer_of title_value entered returned turn_of titles_of start_of go_on_of verdict_for answer_of leads_nowhere command_offends first_command first_object check_of lengths_fit driver_call runner_call check_call
opened = tt

-- object 0 sets r5 to 16 and plays 5, and 1 calls title 7
abbrev file : List ℕ
file = file_of 0 (replicate 6 0) (2 ∷ 1 ∷ []) (p2 ++ command 0x2280_0000 5 0 ++ command 0x2183_0000 7 0)

-- first playback, top menu and title 1 are object 0
abbrev x : List ℕ
x = index.file_of 0 (app_of (replicate 4 0)) (index.entries (1 ∷ 1 ∷ 1 ∷ []) (0 ∷ 0 ∷ 0 ∷ []) (0 ∷ 0 ∷ 0 ∷ []) (replicate 15 0))

-- The runner hands a play on as a request, 9 PlayPL, and keeps entry and pending.
run_object : runner_call file [] (runner.Object 0) (2 ∷ 0 ∷ 0 ∷ []) (banks fresh_general fresh_status) [] (1 ∷ 1 ∷ 1 ∷ 0 ∷ 0 ∷ 1 ∷ []) (replicate 6 9)
    ≡ objects.world (ended 0 (1 ∷ 0 ∷ 2 ∷ 0 ∷ 0 ∷ 1 ∷ []) (2 ∷ 9 ∷ 5 ∷ 0 ∷ 0 ∷ 0 ∷ [])) (banks (set fresh_general 5 16) fresh_status) []
unfolding opened
run_object = refl

-- Any object is started: one off the disc is 4 bad object, and no refusal.
run_object_2 : runner_call file [] (runner.Object 2) (0 ∷ 0 ∷ 0 ∷ []) (banks fresh_general fresh_status) [] (1 ∷ 1 ∷ 1 ∷ 0 ∷ 0 ∷ 0 ∷ []) (replicate 6 9)
    ≡ objects.world (ended 0 (1 ∷ 1 ∷ 1 ∷ 0 ∷ 0 ∷ 0 ∷ []) (4 ∷ 2 ∷ 0 ∷ 0 ∷ 0 ∷ 0 ∷ [])) (banks fresh_general fresh_status) []
unfolding opened
run_object_2 = refl

-- The runner's resume goes on from where the session stands, whether it is pending or not.
go_on : runner_call file [] runner.Here (1 ∷ 0 ∷ 0 ∷ []) (banks fresh_general fresh_status) [] (1 ∷ 0 ∷ 1 ∷ 0 ∷ 0 ∷ 0 ∷ []) (replicate 6 9)
    ≡ objects.world (ended 0 (1 ∷ 0 ∷ 2 ∷ 0 ∷ 0 ∷ 0 ∷ []) (2 ∷ 9 ∷ 5 ∷ 0 ∷ 0 ∷ 0 ∷ [])) (banks fresh_general fresh_status) []
unfolding opened
go_on = refl

-- It is tested as if it were pending: 8 bad session, an object off the disc.
lost_object : runner_call file [] runner.Here (1 ∷ 0 ∷ 0 ∷ []) (banks fresh_general fresh_status) [] (1 ∷ 2 ∷ 0 ∷ 0 ∷ 0 ∷ 0 ∷ []) (replicate 6 9)
    ≡ objects.world (ended 8 (1 ∷ 2 ∷ 0 ∷ 0 ∷ 0 ∷ 0 ∷ []) (replicate 6 9)) (banks fresh_general fresh_status) []
unfolding opened
lost_object = refl

-- The driver answers 1 play, with neither play item nor mark, waits, and tells title 1 in register 4.
run_title_1 : driver_call x file (Entry 1) (2 ∷ 0 ∷ 0 ∷ []) (banks fresh_general fresh_status) [] [] (65536 ∷ 0 ∷ 0 ∷ 0 ∷ 0 ∷ 0 ∷ []) (replicate 6 9)
    ≡ rooms (ended 0 (1 ∷ 0 ∷ 2 ∷ 0 ∷ 0 ∷ 1 ∷ []) (1 ∷ 5 ∷ 0 ∷ 0 ∷ 0 ∷ 0 ∷ [])) (banks (set fresh_general 5 16) (set fresh_status 4 1)) [] []
unfolding opened
run_title_1 = refl

-- 10 not an entry: the arrays of the session and of the outcome stay as they were.
run_65538 : driver_call x file (Entry 65538) (2 ∷ 0 ∷ 0 ∷ []) (banks fresh_general fresh_status) [] [] (65536 ∷ 0 ∷ 0 ∷ 0 ∷ 0 ∷ 0 ∷ []) (replicate 6 9)
    ≡ rooms (ended 10 (65536 ∷ 0 ∷ 0 ∷ 0 ∷ 0 ∷ 0 ∷ []) (replicate 6 9)) (banks fresh_general fresh_status) [] []
unfolding opened
run_65538 = refl

-- The driver's resume finishes a session that isn't pending.
at_rest : driver_call x file Here (2 ∷ 0 ∷ 0 ∷ []) (banks fresh_general fresh_status) [] [] (1 ∷ 0 ∷ 0 ∷ 0 ∷ 0 ∷ 0 ∷ []) (replicate 6 9)
    ≡ rooms (ended 0 (1 ∷ 0 ∷ 0 ∷ 0 ∷ 0 ∷ 0 ∷ []) (0 ∷ 0 ∷ 0 ∷ 0 ∷ 0 ∷ 0 ∷ [])) (banks fresh_general fresh_status) [] []
unfolding opened
at_rest = refl

-- 8 bad session, two title frames in room for one: the arrays of both kinds of frames stay as they were, too.
bad_session : driver_call x file Here (2 ∷ 0 ∷ 0 ∷ []) (banks fresh_general fresh_status) (1 ∷ 2 ∷ []) (3 ∷ 4 ∷ 5 ∷ []) (1 ∷ 0 ∷ 2 ∷ 0 ∷ 2 ∷ 1 ∷ []) (replicate 6 7)
    ≡ rooms (ended 8 (1 ∷ 0 ∷ 2 ∷ 0 ∷ 2 ∷ 1 ∷ []) (replicate 6 7)) (banks fresh_general fresh_status) (1 ∷ 2 ∷ []) (3 ∷ 4 ∷ 5 ∷ [])
unfolding opened
bad_session = refl

-- The disc check: 1, and the object and the command of the first that offends. There is no title 7.
no_title_7 : check_call x file (9 ∷ 9 ∷ 9 ∷ []) ≡ handed 0 (1 ∷ 1 ∷ 0 ∷ [])
unfolding opened
no_title_7 = refl

-- 2 bad header, an index file under 40 bytes: the array stays as it was.
no_header : check_call (replicate 39 0) file (9 ∷ 9 ∷ 9 ∷ []) ≡ handed 2 (9 ∷ 9 ∷ 9 ∷ [])
unfolding opened
no_header = refl
