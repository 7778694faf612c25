-- What the examples run on: banks, commands and object files. Assumes nothing.
use Rattle.std.specs.Prelude.{List, ◌++◌, ℕ, replicate}
use Rattle.common.specs.Rules.{bytes2, bytes4}
use Rattle.registers.specs.Rules.{fresh_general, fresh_status}

-- fresh banks
abbrev pub general : List ℕ
general = fresh_general

abbrev pub status : List ℕ
status = fresh_status

-- commands with an immediate operand
abbrev pub jump_object : ℕ → List ℕ
jump_object o = bytes4 0x2180_0000 ++ bytes4 o ++ bytes4 0

abbrev pub call_object : ℕ → List ℕ
call_object o = bytes4 0x2182_0000 ++ bytes4 o ++ bytes4 0

-- an object of so many commands, and a file of so many objects
abbrev pub object : ℕ → List ℕ → List ℕ
object n commands = bytes4 n ++ commands

abbrev pub objects : ℕ → List ℕ → List ℕ
objects n all = bytes4 0x4D4F424A ++ replicate 72 0 ++ bytes2 n ++ all
