-- Examples of a command as a line of text (document 01, the listing program; the Rust's `disassemble`). Assumes nothing.
use Rattle.std.specs.Prelude.{◌≡◌, refl, true, List, ◌++◌, ℕ, length, Err, Ok}
use Rattle.std.proofs.lemmas.List.Edits.{sets}
use Rattle.laws.specs.Over.{over}
use Rattle.error.specs.declared.Refusal.TheVariants.{NoRoom}
use Rattle.text.specs.Rules.{bytes, numeral}
use Rattle.register_model.specs.Rules.{class_of}
use Rattle.register_model.specs.Names.{name_of}
use Rattle.nav_command.specs.declared.BranchOp.TheVariants.{CallTitle}
use Rattle.nav_command.specs.declared.SetOp.TheVariants.{ShiftRight}
use Rattle.nav_command.specs.declared.Operation.TheVariants.{Branch, Set}
use Rattle.common.specs.Rules.{be4}
use Rattle.nav_command.specs.Rules.{branch_of, set_of, operand_of, number_of, command_of}
use Rattle.nav_names.specs.Rules.{mnemonic, name_text}
use Rattle.nav_list.specs.Rules.{unknown_text, immediate_text, general_text, status_text, line_of, line_at, listing, list_of}
use Rattle.command_examples.specs.Commands.{command, p2, move}
use Rattle.command_examples.specs.Theorems.{long}

-- room for twelve bytes of text
abbrev room : List ℕ
room = bytes "............"

-- An operation is listed by its name.
call_title_fine : mnemonic (number_of (Branch CallTitle)) ≡ bytes "CallTitle"
unfolding mnemonic
call_title_fine = refl

shift_right_shown : mnemonic (number_of (Set ShiftRight)) ≡ bytes "ShiftRight"
unfolding mnemonic
shift_right_shown = refl

-- A status register is followed by its name.
title_number : name_text 4 ≡ bytes "(Title)"
unfolding class_of name_of name_text
title_number = refl

-- A secondary one has a tick before it.
secondary : status_text 4 true ≡ bytes "PSR4'(Title)"
unfolding numeral class_of name_of name_text status_text
secondary = refl

-- Reserved registers list without a name.
reserved_register : name_text 21 ≡ bytes ""
unfolding class_of name_text
reserved_register = refl

-- An unknown code is listed with its sub-group.
unknown_code : line_at (command 0x030A_0000 0 0) 0 ≡ bytes "Unknown(sub_grp=3,sel=0xA)"
unfolding numeral branch_of operand_of be4 command_of unknown_text line_of line_at
unknown_code = refl

-- P3, behind P2.
protected_register : line_at (p2 ++ command 0x5040_0001 0x8000_0008 5) 12 ≡ bytes "Move PSR8(PresentationTime), 0x5"
unfolding numeral class_of name_of set_of operand_of be4 command_of mnemonic name_text immediate_text status_text line_of line_at
protected_register = refl

-- No room: the 13 bytes of P2's line, in twelve.
twelve_bytes : list_of room 0 (line_at p2 0) ≡ listing (Err NoRoom) room
unfolding numeral set_of operand_of be4 command_of mnemonic immediate_text general_text line_of line_at list_of
twelve_bytes = refl

-- The line goes from a place on, and all else stays; the place after it is told.
listed_from_2 : list_of (bytes "..................") 2 (line_of move) ≡ listing (Ok 15) (bytes "..Move r5, 0x10...")
unfolding over numeral mnemonic immediate_text general_text line_of list_of
listed_from_2 = refl

-- A line in room that has less is cut, and its length is told whole.
line_cut_by_the_room : sets room 4 (line_at p2 0) ≡ bytes "....Move r5,"
unfolding numeral set_of operand_of be4 command_of mnemonic immediate_text general_text line_of line_at
line_cut_by_the_room = refl

length_of_a_line : length (line_at p2 0) ≡ 13
unfolding numeral set_of operand_of be4 command_of mnemonic immediate_text general_text line_of line_at
length_of_a_line = refl

-- An unknown code with two secondary registers of the longest name has the longest line.
longest_line : length (line_of (command_of long)) ≡ 102
unfolding numeral class_of name_of set_of operand_of be4 command_of name_text unknown_text status_text line_of
longest_line = refl
