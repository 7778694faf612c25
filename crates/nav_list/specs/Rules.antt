-- A command as a line of text (the Rust's `disassemble`). Assumes nothing.
use Rattle.std.specs.Prelude.{Bool, true, false, cond, List, [], ◌++◌, ℕ, ◌+◌, leb, length, take, drop, Err, Ok, Result}
use Rattle.laws.specs.Over.{over}
use Rattle.text.specs.Rules.{bytes, numeral}
use Rattle.error.specs.declared.Refusal.TheVariants.{NoRoom}
use Rattle.nav_names.specs.Rules.{mnemonic, name_text}
use Rattle.nav_command.specs.declared.Operation.{Operation}
use Rattle.nav_command.specs.declared.Operation.TheVariants.{Branch, Compare, Set, System, Unknown}
use Rattle.nav_command.specs.declared.RegisterBank.TheVariants.{Gpr, Psr, PsrSecondary}
use Rattle.nav_command.specs.declared.Operand.{Operand}
use Rattle.nav_command.specs.declared.Operand.TheVariants.{Absent, Immediate, Register}
use Rattle.nav_command.specs.declared.DecodedCommand.{DecodedCommand}
use Rattle.nav_command.specs.Rules.{number_of, command_of}
use Rattle.error.specs.declared.Refusal.{Refusal}

unfoldable pub unknown_text : ℕ → ℕ → List ℕ
unknown_text sub code = bytes "Unknown(sub_grp=" ++ (numeral 10 sub ++ (bytes ",sel=0x" ++ (numeral 16 code ++ bytes ")")))

abbrev pub head_text : Operation → List ℕ
head_text (Branch op) = mnemonic (number_of (Branch op))
head_text (Compare op) = mnemonic (number_of (Compare op))
head_text (Set op) = mnemonic (number_of (Set op))
head_text (System op) = mnemonic (number_of (System op))
head_text (Unknown sub code) = unknown_text sub code

unfoldable pub immediate_text : ℕ → List ℕ
immediate_text value = bytes "0x" ++ numeral 16 value

unfoldable pub general_text : ℕ → List ℕ
general_text i = bytes "r" ++ numeral 10 i

-- with a tick for a secondary one
abbrev pub tick_text : Bool → List ℕ
tick_text true = bytes "'"
tick_text false = []

unfoldable pub status_text : ℕ → Bool → List ℕ
status_text i tick = bytes "PSR" ++ (numeral 10 i ++ (tick_text tick ++ name_text i))

abbrev pub operand_text : Operand → List ℕ
operand_text Absent = []
operand_text (Immediate value) = immediate_text value
operand_text (Register Gpr i) = general_text i
operand_text (Register Psr i) = status_text i false
operand_text (Register PsrSecondary i) = status_text i true

-- A second operand is listed only after a first.
abbrev pub second_text : Operand → List ℕ
second_text Absent = []
second_text (Immediate value) = bytes ", " ++ operand_text (Immediate value)
second_text (Register bank i) = bytes ", " ++ operand_text (Register bank i)

abbrev pub operands_text : Operand → Operand → List ℕ
operands_text Absent second = []
operands_text (Immediate value) second = bytes " " ++ (operand_text (Immediate value) ++ second_text second)
operands_text (Register bank i) second = bytes " " ++ (operand_text (Register bank i) ++ second_text second)

unfoldable pub line_of : DecodedCommand → List ℕ
line_of c = head_text c.operation ++ operands_text c.operand1 c.operand2

-- The line of the twelve bytes at a place.
unfoldable pub line_at : List ℕ → ℕ → List ℕ
line_at file from = line_of (command_of (take 12 (drop from file)))

-- What listing into lent room answers and leaves: the place after the text, or refusal 5, and then nothing is altered.
pub record Listing : Type 0 where
  pub answer : Result ℕ Refusal
  pub held : List ℕ

abbrev pub listing : Result ℕ Refusal → List ℕ → Listing
listing answer l = record { answer = answer; held = l }

unfoldable pub list_of : List ℕ → ℕ → List ℕ → Listing
list_of l at t =
    cond (leb (at + length t) (length l)) (listing (Ok (at + length t)) (over l at t)) (listing (Err NoRoom) l)
