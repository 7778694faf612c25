-- Examples of the disc check (document 01, "Objects and titles"). Assumes nothing.
use Rattle.std.specs.Prelude.{◌≡◌, refl, List, ◌++◌, ℕ, Err, None, Ok, Some}
use Rattle.common.specs.Rules.{be2, be4, bytes2, bytes4, header_of}
use Rattle.index_bdmv.specs.Rules.{app_info_verdict, entry_verdict, entries_verdict, start_of, stated_verdict, titles_verdict, indexes_verdict, verdict_of as indexVerdict, title_count, place_of, resolve_of}
use Rattle.movie_object.specs.Rules.{count_of, next, place, body_of, verdict_of, commands_of}
use Rattle.nav_command.specs.Rules.{branch_of, operand_of, command_of}
use Rattle.disc_check.specs.declared.DiscCheck.TheVariants.{Passed, Offends}
use Rattle.disc_check.specs.Rules.{register_reach, leads_nowhere, command_offends, first_command, first_object, check_of}
use Rattle.mobj_runner_examples.specs.Discs.{jump_object, object, objects}
use Rattle.drive_examples.specs.Discs.{jump_title, hdmv, index}

-- what the examples compute with
opened : Unit {0}
unfolding be2 be4 bytes2 bytes4 header_of app_info_verdict entry_verdict entries_verdict start_of stated_verdict titles_verdict indexes_verdict indexVerdict title_count place_of resolve_of count_of next place body_of verdict_of commands_of branch_of operand_of command_of register_reach leads_nowhere command_offends first_command first_object check_of
opened = tt

-- object 0 jumps to title 1, which is object 0; object 1 jumps to itself, so that a given last command is never reached
abbrev x : List ℕ
x = index 0 0 1 (hdmv 0)

abbrev file : List ℕ → List ℕ
file last = objects 2 (object 1 (jump_title 1) ++ object 2 (jump_object 1 ++ last))

-- JumpObject with a general register
abbrev jump_register : ℕ → List ℕ
jump_register r = bytes4 0x2100_0000 ++ bytes4 r ++ bytes4 0

-- Yes, or no with the first offending object and command in file order, whether a run reaches it or not.
pub clean_disc : check_of x (file (jump_object 1)) ≡ Ok Passed
unfolding opened
clean_disc = refl

pub last_command_offends : check_of x (file (jump_object 2)) ≡ Ok (Offends 1 1)
unfolding opened
last_command_offends = refl

-- A register that there is can hold anything.
pub register_offends : check_of x (file (jump_register 0)) ≡ Ok (Offends 1 1)
unfolding opened
register_offends = refl

-- Titles are cut to their low 16 bits first.
pub title_65537 : check_of x (file (jump_title 65537)) ≡ Ok Passed
unfolding opened
title_65537 = refl
