-- One command as thirteen numbers, and back (document 01: "a definition gives this paper's number and values for every case"). Assumes nothing.
use Rattle.std.specs.Prelude.{Bool, true, false, cond, not, List, [], ◌∷◌, ◌++◌, map, ℕ, ◌-◌, ◌%◌, eqb, leb, get_or}
use Rattle.laws.specs.Firsts.{all}
use Rattle.nav_command.specs.declared.BranchOp.{BranchOp}
use Rattle.nav_command.specs.declared.CommandGroup.{CommandGroup}
use Rattle.nav_command.specs.declared.CommandGroup.TheVariants as G
use Rattle.nav_command.specs.declared.DecodedCommand.{DecodedCommand}
use Rattle.nav_command.specs.declared.Operand.{Operand}
use Rattle.nav_command.specs.declared.Operand.TheVariants.{Absent, Immediate, Register}
use Rattle.nav_command.specs.declared.Operation.{Operation}
use Rattle.nav_command.specs.declared.Operation.TheVariants.{Branch, Compare, Set, System, Unknown}
use Rattle.nav_command.specs.declared.RegisterBank.{RegisterBank}
use Rattle.nav_command.specs.declared.RegisterBank.TheVariants.{Gpr, Psr, PsrSecondary}
use Rattle.nav_command.specs.Rules.{gotos, jumps, plays, compares, sets, systems, groups, number_of}
use Rattle.nav_numbers.specs.declared.Pair.{Pair}

abbrev pub flag_number : Bool → ℕ
flag_number true = 1
flag_number false = 0

abbrev pub pair : ℕ → ℕ → Pair
pair k v = record { kind = k; value = v }

-- The sub-group and the code of an unknown operation, and zeros for any other.
abbrev pub unknown_of : Operation → Pair
unknown_of (Branch op) = pair 0 0
unknown_of (Compare op) = pair 0 0
unknown_of (Set op) = pair 0 0
unknown_of (System op) = pair 0 0
unknown_of (Unknown sub code) = pair sub code

-- ---- a decoded command: count; group, with its bits if reserved; sub-group; flags; operation, with its codes if unknown; operands

abbrev pub group_pair : CommandGroup → Pair
group_pair G.Branch = pair 0 0
group_pair G.Compare = pair 1 0
group_pair G.Set = pair 2 0
group_pair (G.Reserved bits) = pair 3 bits

-- 0 absent, 1 immediate, 2 general, 3 status, 4 secondary
abbrev pub bank_kind : RegisterBank → ℕ
bank_kind Gpr = 2
bank_kind Psr = 3
bank_kind PsrSecondary = 4

abbrev pub operand_pair : Operand → Pair
operand_pair Absent = pair 0 0
operand_pair (Immediate v) = pair 1 v
operand_pair (Register bank i) = pair (bank_kind bank) i

unfoldable pub command_numbers : DecodedCommand → List ℕ
command_numbers c =
    c.operand_count
    ∷ (group_pair c.group).kind
    ∷ (group_pair c.group).value
    ∷ c.sub_group
    ∷ flag_number c.imm_op1
    ∷ flag_number c.imm_op2
    ∷ number_of c.operation
    ∷ (unknown_of c.operation).kind
    ∷ (unknown_of c.operation).value
    ∷ (operand_pair c.operand1).kind
    ∷ (operand_pair c.operand1).value
    ∷ (operand_pair c.operand2).kind
    ∷ (operand_pair c.operand2).value
    ∷ []

-- The command that numbers name, each cut to its field's width.

unfoldable pub group_named : ℕ → ℕ → CommandGroup
group_named kind bits = get_or groups kind (G.Reserved (bits % 256))

abbrev pub operand_row : ℕ → List Operand
operand_row v =
    Absent ∷ Immediate v ∷ Register Gpr (v % 65536) ∷ Register Psr (v % 65536) ∷ Register PsrSecondary (v % 65536) ∷ []

unfoldable pub operand_named : ℕ → ℕ → Operand
operand_named kind v = get_or (operand_row v) kind Absent

-- the sheet: 14 branches, 7 compares, 15 sets and 11 system operations
abbrev pub branches : List BranchOp
branches = gotos ++ jumps ++ plays

unfoldable pub sheet_named : ℕ → Operation → Operation
sheet_named n other =
    cond (leb n 14) (get_or (other ∷ map Branch branches) n other)
    (cond (leb n 21) (get_or (map Compare compares) (n - 15) other)
    (cond (leb n 36) (get_or (map Set sets) (n - 22) other) (get_or (map System systems) (n - 37) other)))

abbrev pub operation_named : ℕ → ℕ → ℕ → Operation
operation_named n sub code = sheet_named n (Unknown (sub % 256) (code % 256))

unfoldable pub command_named : List ℕ → DecodedCommand
command_named l =
    record {
      operand_count = get_or l 0 0 % 256;
      group = group_named (get_or l 1 0) (get_or l 2 0);
      sub_group = get_or l 3 0 % 256;
      imm_op1 = not (eqb (get_or l 4 0) 0);
      imm_op2 = not (eqb (get_or l 5 0) 0);
      operation = operation_named (get_or l 6 0) (get_or l 7 0) (get_or l 8 0);
      operand1 = operand_named (get_or l 9 0) (get_or l 10 0);
      operand2 = operand_named (get_or l 11 0) (get_or l 12 0);
    }

-- Thirteen numbers are a command's if they are those of the command that they name.

abbrev pub same_at : List ℕ → List ℕ → ℕ → Bool
same_at a b k = eqb (get_or a k 0) (get_or b k 0)

unfoldable pub is_command : List ℕ → Bool
is_command l = all (same_at (command_numbers (command_named l)) l) 13
