-- What is promised of commands and their numbers. Assumes nothing.
use Rattle.std.specs.Prelude.{◌≡◌, true, List, ℕ, ◌<◌, length}
use Rattle.nav_command.specs.declared.DecodedCommand.{DecodedCommand}
use Rattle.nav_numbers.specs.Rules.{group_pair, unknown_of, command_numbers, command_named, is_command}
use Rattle.nav_command.specs.declared.Operand.{Operand}
use Rattle.nav_command.specs.declared.Operand.TheVariants.{Absent, Immediate, Register}

-- An operand's register number is a u16.
abbrev pub small : Operand → Type 0
small Absent = Unit {0}
small (Immediate v) = Unit {0}
small (Register bank i) = i < 65536

-- A command whose fields are of their types.
pub record Typed (c : DecodedCommand) : Type 0 where
  pub count : c.operand_count < 256
  pub group : (group_pair c.group).value < 256
  pub sub : c.sub_group < 256
  pub unknown : ((unknown_of c.operation).kind < 256) × ((unknown_of c.operation).value < 256)
  pub first : small c.operand1
  pub second : small c.operand2

-- A command's numbers name it and no other; and what numbers name has just those numbers, if they are a command's.
pub record Named (c : DecodedCommand) : Type 0 where
  pub back : command_named (command_numbers c) ≡ c
  pub are : is_command (command_numbers c) ≡ true

abbrev pub NumbersNameCommands : Type 0
NumbersNameCommands =
    ((c : DecodedCommand) → Typed c → Named c)
    × ((l : List ℕ) → length l ≡ 13 → is_command l ≡ true → command_numbers (command_named l) ≡ l)
