-- What the disc check computes (document 01, the check); that it should is specs/Promise.antt. Assumes nothing.
use Rattle.std.specs.Prelude.{Bool, true, false, cond, List, ℕ, zero, suc, ◌*◌, ◌/◌, ◌%◌, leb, ltb, length, None, Option, Result, Some}
use Rattle.error.specs.Rules.{first_of, given}
use Rattle.index_bdmv.specs.Rules.{resolve_of, verdict_of as indexVerdict}
use Rattle.movie_object.specs.Rules.{count_of, commands_of, verdict_of as objectsVerdict}
use Rattle.nav_command.specs.Rules.{command_of}
use Rattle.nav_command.specs.declared.BranchOp.{BranchOp}
use Rattle.nav_command.specs.declared.BranchOp.TheVariants as B
use Rattle.nav_command.specs.declared.CommandGroup.{CommandGroup}
use Rattle.nav_command.specs.declared.CommandGroup.TheVariants as G
use Rattle.nav_command.specs.declared.DecodedCommand.{DecodedCommand}
use Rattle.nav_command.specs.declared.Operand.{Operand}
use Rattle.nav_command.specs.declared.Operand.TheVariants.{Absent, Immediate, Register}
use Rattle.nav_command.specs.declared.Operation.{Operation}
use Rattle.nav_command.specs.declared.Operation.TheVariants as O
use Rattle.nav_command.specs.declared.RegisterBank.TheVariants.{Gpr, Psr, PsrSecondary}
use Rattle.vm.specs.Rules.{fetched}
use Rattle.disc_check.specs.declared.DiscCheck.{DiscCheck}
use Rattle.disc_check.specs.declared.DiscCheck.TheVariants as C
use Rattle.disc_check.specs.declared.Reach.{Reach}
use Rattle.disc_check.specs.declared.Reach.TheVariants.{Always, Anything}
use Rattle.error.specs.declared.Refusal.{Refusal}

-- The values that an operand can have: a register that there is can hold anything, and all else reads the same always.

unfoldable pub register_reach : ℕ → ℕ → Reach
register_reach i size = cond (ltb i size) Anything (Always 0)

abbrev pub reach_of : Operand → Reach
reach_of Absent = Always 0
reach_of (Immediate v) = Always v
reach_of (Register Gpr i) = register_reach i 4096
reach_of (Register Psr i) = register_reach i 128
reach_of (Register PsrSecondary i) = register_reach i 128

-- A title leads to an object of the disc if it resolves and that object is on the disc.

abbrev pub led_nowhere : ℕ → Option ℕ → Bool
led_nowhere n None = true
led_nowhere n (Some o) = leb n o

unfoldable pub leads_nowhere : List ℕ → ℕ → ℕ → Bool
leads_nowhere x n title = led_nowhere n (resolve_of x title)

-- An operand offends if it can name what the disc lacks; titles are cut to 16 bits.

abbrev pub object_offends : ℕ → Reach → Bool
object_offends n (Always o) = leb n o
object_offends n Anything = true

abbrev pub title_offends : List ℕ → ℕ → Reach → Bool
title_offends x n (Always t) = leads_nowhere x n (t % 65536)
title_offends x n Anything = true

abbrev pub branch_offends : List ℕ → ℕ → BranchOp → Reach → Bool
branch_offends x n B.JumpObject r = object_offends n r
branch_offends x n B.CallObject r = object_offends n r
branch_offends x n B.JumpTitle r = title_offends x n r
branch_offends x n B.CallTitle r = title_offends x n r
branch_offends x n B.Nop r = false
branch_offends x n B.GoTo r = false
branch_offends x n B.Break r = false
branch_offends x n B.Resume r = false
branch_offends x n B.PlayPL r = false
branch_offends x n B.PlayPLatPlayItem r = false
branch_offends x n B.PlayPLatMark r = false
branch_offends x n B.TerminatePL r = false
branch_offends x n B.LinkPI r = false
branch_offends x n B.LinkMK r = false

abbrev pub operation_offends : List ℕ → ℕ → Operation → Operand → Bool
operation_offends x n (O.Branch op) a = branch_offends x n op (reach_of a)
operation_offends x n (O.Compare op) a = false
operation_offends x n (O.Set op) a = false
operation_offends x n (O.System op) a = false
operation_offends x n (O.Unknown sub code) a = false

abbrev pub group_offends : List ℕ → ℕ → CommandGroup → DecodedCommand → Bool
group_offends x n G.Branch c = operation_offends x n c.operation c.operand1
group_offends x n G.Compare c = false
group_offends x n G.Set c = false
group_offends x n (G.Reserved g) c = false

unfoldable pub command_offends : List ℕ → ℕ → DecodedCommand → Bool
command_offends x n c = group_offends x n c.group c

abbrev pub offends_at : List ℕ → ℕ → List ℕ → ℕ → Bool
offends_at x n cs k = command_offends x n (command_of (fetched cs (12 * k)))

-- The first of so many commands from k on, and of so many objects from n on.

unfoldable pub first_command : List ℕ → ℕ → List ℕ → ℕ → ℕ → Option ℕ
first_command x n cs zero k = None
first_command x n cs (suc left) k = cond (offends_at x n cs k) (Some k) (first_command x n cs left (suc k))

abbrev pub or_else : Option ℕ → ℕ → DiscCheck → DiscCheck
or_else (Some k) n rest = C.Offends n k
or_else None n rest = rest

abbrev pub in_object : List ℕ → List ℕ → ℕ → Option ℕ
in_object x file n = first_command x (count_of file) (commands_of file n) (length (commands_of file n) / 12) 0

unfoldable pub first_object : List ℕ → List ℕ → ℕ → ℕ → DiscCheck
first_object x file zero n = C.Passed
first_object x file (suc left) n = or_else (in_object x file n) n (first_object x file left (suc n))

-- The refusals of the files in their order: index, then objects.

unfoldable pub check_of : List ℕ → List ℕ → Result DiscCheck Refusal
check_of x file = given (first_of (indexVerdict x) (objectsVerdict file)) (first_object x file (count_of file) 0)
