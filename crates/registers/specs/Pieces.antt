-- What inner functions of the code promise one another, in terms of the rules; none of it has to be believed. Assumes nothing.
use Rattle.std.specs.Prelude.{Bool, true, false, ℕ}
use Rattle.nav_command.specs.Rules.{operand_of}
use Rattle.nav_command.specs.declared.Operation.{Operation}
use Rattle.nav_command.specs.declared.Operand.{Operand}
use Rattle.nav_command.specs.declared.RegisterBank.{RegisterBank}
use Rattle.nav_command.specs.declared.RegisterBank.TheVariants.{Gpr, Psr}
use Rattle.registers.specs.declared.Raw.{Raw}
use Rattle.registers.specs.Rules.{Banks, value_of, effect_for, applied, set_of}

-- the bank that a flag picks; commands name the status one in two ways
abbrev pub bank_for : Bool → RegisterBank
bank_for true = Psr
bank_for false = Gpr

-- an effect and a Set with the values that their operands have
unfoldable pub applied_in : Operation → Operand → Operand → Banks → Banks
applied_in op a b s = applied (effect_for op (value_of a s) (value_of b s)) a b (value_of a s) (value_of b s) s

abbrev pub set_in : Operation → Operand → Operand → Banks → Banks
set_in op a b s = set_of op a b (value_of a s) (value_of b s) s

-- What the code's record of an operand means.

abbrev pub raw : Bool → Bool → ℕ → Raw
raw there immediate word = record { there = there; immediate = immediate; word = word }

abbrev pub meant : Raw → Operand
meant a = operand_of a.there a.immediate a.word
