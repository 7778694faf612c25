-- The marked examples P1 to P12 (document 01, "Marked and run examples"), with whole banks. Assumes nothing.
use Rattle.std.specs.Prelude.{◌≡◌, List, [], ◌∷◌, ◌++◌, ℕ, ◌/◌, ◌%◌, set}
use Rattle.nav_command.specs.Rules.{command_of}
use Rattle.nav_command.specs.declared.BranchOp.TheVariants as B
use Rattle.nav_command.specs.declared.CompareOp.TheVariants as C
use Rattle.nav_command.specs.declared.SetOp.TheVariants as S
use Rattle.nav_command.specs.declared.Operation.{Operation}
use Rattle.nav_command.specs.declared.Operation.TheVariants as O
use Rattle.registers.specs.Rules.{fresh_general, fresh_status}
use Rattle.vm.specs.declared.Step.TheVariants.{Continue, Skipped, Halted}
use Rattle.vm.specs.declared.Stepped.{Stepped}
use Rattle.vm.specs.Rules.{Banks, banks, After, after, stepped, fetched, step_of}

-- the bytes of a command's three words
abbrev pub bytes : ℕ → List ℕ
bytes w = w / 0x100_0000 ∷ w / 0x1_0000 % 256 ∷ w / 0x100 % 256 ∷ w % 256 ∷ []

abbrev pub command : ℕ → ℕ → ℕ → List ℕ
command w x y = bytes w ++ bytes x ++ bytes y

abbrev pub general : List ℕ
general = fresh_general

abbrev pub status : List ℕ
status = fresh_status

-- from these banks the first of the commands is this operation, and leaves this
pub record Case : Type 0 where
  pub commands : List ℕ
  pub operation : Operation
  pub regs : Banks
  pub gives : After Stepped

abbrev pub case : List ℕ → Operation → Banks → After Stepped → Case
case cs op s t = record { commands = cs; operation = op; regs = s; gives = t }

abbrev pub nop : List ℕ
nop = command 0 0 0

abbrev pub go_to2 : List ℕ
go_to2 = command 0x2081_0000 2 0

abbrev pub p1 : Case
p1 = case nop (O.Branch B.Nop) (banks general status) (after general status (stepped Continue 1))

abbrev pub p2 : Case
p2 = case (command 0x5040_0001 5 0x10) (O.Set S.Move) (banks general status) (after (set general 5 16) status (stepped Continue 1))

abbrev pub p3 : Case
p3 = case (command 0x5040_0001 0x8000_0008 5) (O.Set S.Move) (banks general status) (after general status (stepped Continue 1))

abbrev pub p4 : Case
p4 = case (command 0x5040_0003 0 1) (O.Set S.Add) (banks (set general 0 4294967295) status) (after general status (stepped Continue 1))

abbrev pub p5 : Case
p5 = case (command 0x5040_0004 0 1) (O.Set S.Sub) (banks general status) (after (set general 0 4294967295) status (stepped Continue 1))

abbrev pub p6 : Case
p6 = case (command 0x5040_0006 0 0) (O.Set S.Div) (banks (set general 0 9) status) (after general status (stepped Continue 1))

abbrev pub p7a : Case
p7a = case (command 0x5040_000E 0 31) (O.Set S.ShiftLeft) (banks (set general 0 1) status) (after (set general 0 2147483648) status (stepped Continue 1))

abbrev pub p7b : Case
p7b = case (command 0x5040_000E 0 32) (O.Set S.ShiftLeft) (banks (set general 0 1) status) (after general status (stepped Continue 1))

abbrev pub p8 : Case
p8 = case (command 0x5040_000C 0 33) (O.Set S.BitSet) (banks general status) (after (set general 0 2) status (stepped Continue 1))

abbrev pub p9 : Case
p9 =
    case (command 0x5000_0002 1 0x8000_0008) (O.Set S.Swap) (banks (set general 1 3) (set status 8 7))
    (after (set general 1 7) (set status 8 7) (stepped Continue 1))

abbrev pub p10a : Case
p10a = case (go_to2 ++ nop) (O.Branch B.GoTo) (banks general status) (after general status (stepped Halted 1))

abbrev pub p10b : Case
p10b = case (go_to2 ++ nop ++ nop) (O.Branch B.GoTo) (banks general status) (after general status (stepped Continue 2))

abbrev pub p11 : Case
p11 = case (command 0x4840_0200 1 7) (O.Compare C.Eq) (banks general status) (after general status (stepped Skipped 1))

abbrev pub p12 : Case
p12 = case (command 0x5000_0001 5 0x8000_0080) (O.Set S.Move) (banks (set general 5 9) status) (after general status (stepped Continue 1))

abbrev pub table : List Case
table = p1 ∷ p2 ∷ p3 ∷ p4 ∷ p5 ∷ p6 ∷ p7a ∷ p7b ∷ p8 ∷ p9 ∷ p10a ∷ p10b ∷ p11 ∷ p12 ∷ []

abbrev pub Meets : Case → Type 0
Meets c = ((command_of (fetched c.commands 0)).operation ≡ c.operation) × (step_of c.commands 0 c.regs ≡ c.gives)

abbrev pub All : (Case → Type 0) → List Case → Type 0
All f [] = Unit {0}
All f (c ∷ cs) = f c × All f cs

-- the theorem: every case of the table
abbrev pub Marked : Type 0
Marked = All Meets table
