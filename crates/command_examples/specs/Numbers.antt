-- Examples of a command as thirteen numbers, and back (include/mescjadro.h, "one command"; document 01, module 4). Assumes nothing.
use Rattle.std.specs.Prelude.{◌≡◌, refl, true, false, List, [], ◌∷◌, ℕ, ◌/◌, ◌%◌, set}
use Rattle.laws.specs.Firsts.{all}
use Rattle.nav_command.specs.declared.BranchOp.TheVariants as B
use Rattle.nav_command.specs.declared.CompareOp.TheVariants as C
use Rattle.nav_command.specs.declared.SetOp.TheVariants as S
use Rattle.nav_command.specs.declared.SystemOp.TheVariants as Y
use Rattle.nav_command.specs.declared.Operation.TheVariants as O
use Rattle.nav_command.specs.declared.RegisterBank.TheVariants.{PsrSecondary}
use Rattle.nav_command.specs.declared.Operand.TheVariants.{Register}
use Rattle.common.specs.Rules.{be4}
use Rattle.nav_command.specs.Rules.{branch_number, compare_number, set_number, system_number, number_of, group_of, branch_of, set_of, operation_of, operand_of, command_of}
use Rattle.nav_numbers.specs.Pieces.{place, place_of}
use Rattle.nav_numbers.specs.Rules.{flag_number, pair, unknown_of, operand_pair, command_numbers, group_named, operand_named, sheet_named, command_named, is_command}
use Rattle.command_examples.specs.Commands.{p2, move}

-- what the examples compute with
opened : Unit {0}
unfolding all branch_of set_of operand_of be4 command_of command_numbers group_named operand_named sheet_named command_named is_command
opened = tt

-- P2: two operands; group Set; the second flag; Move, number 22 of the sheet; general register 5, and the immediate 16
abbrev numbers : List ℕ
numbers = 2 ∷ 2 ∷ 0 ∷ 0 ∷ 0 ∷ 1 ∷ 22 ∷ 0 ∷ 0 ∷ 2 ∷ 5 ∷ 1 ∷ 16 ∷ []

numbers_of_p2 : command_numbers (command_of p2) ≡ numbers
unfolding opened
numbers_of_p2 = refl

command_named_back : command_named numbers ≡ move
unfolding opened
command_named_back = refl

-- A field is cut to its width, so that a count of 258 is none of a command's numbers.
numbers_of_a_command : is_command numbers ∷ is_command (set numbers 0 258) ∷ [] ≡ true ∷ false ∷ []
unfolding opened
numbers_of_a_command = refl

-- The place of an operation on its part of the sheet, counted from 1: the branches follow one another.
jump_title_fine : branch_number B.JumpTitle ≡ 5
jump_title_fine = refl

equal : compare_number C.Eq ≡ 2
equal = refl

shift_right_shown : set_number S.ShiftRight ≡ 15
shift_right_shown = refl

pop_up_off : system_number Y.PopUpOff ≡ 7
pop_up_off = refl

-- The place on the whole sheet: 47 SetStreamSS is the last, and an unknown operation has 0.
last_on_the_sheet : number_of (O.System Y.SetStreamSS) ≡ 47
last_on_the_sheet = refl

not_on_the_sheet : number_of (O.Unknown 3 10) ≡ 0
not_on_the_sheet = refl

-- Sub-group and code of an unknown operation.
unknown_pair : unknown_of (O.Unknown 3 10) ≡ pair 3 10
unknown_pair = refl

-- Flags are 0 or 1.
flags : flag_number true ∷ flag_number false ∷ [] ≡ 1 ∷ 0 ∷ []
flags = refl

-- A kind, and its value.
kind_and_value : pair 2 5 ≡ record { kind = 2; value = 5 }
kind_and_value = refl

-- A secondary register is of kind 4, and its value is the register's number.
secondary_pair : operand_pair (Register PsrSecondary 48) ≡ pair 4 48
secondary_pair = refl

-- An operation by group and codes: Move is code 1 of group Set, and branch option 10 of sub-group 3 is unknown.
move_at : place_of (operation_of (group_of (16 / 8)) (16 % 8) 0 0 1) ≡ place 22 0 0
unfolding opened
move_at = refl

unknown_at : place_of (operation_of (group_of (3 / 8)) (3 % 8) 10 0 1) ≡ place 0 3 10
unfolding opened
unknown_at = refl

-- An operand from its word: an absent one has no value, and a register's number is the low 12 bits.
absent_at : operand_pair (operand_of false true 7) ≡ pair 0 0
unfolding opened
absent_at = refl

register_at : operand_pair (operand_of true false 0x8000_1004) ≡ pair 3 4
unfolding opened
register_at = refl

-- The low byte of a number.
low_byte : 0x1234 % 256 ≡ 0x34
low_byte = refl
