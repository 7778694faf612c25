-- What one command does, and a run of commands (document 01, "One command"). Assumes nothing.
use Rattle.std.specs.Prelude.{Bool, true, false, cond, not, List, [], ◌∷◌, map, ℕ, zero, suc, ◌+◌, ◌*◌, ◌/◌, ◌%◌, eqb, leb, ltb, length, get_or, Result, Ok, Err}
use Rattle.std.specs.Int.Bits.{bit_and}
use Rattle.nav_command.specs.Rules.{command_of}
use Rattle.error.specs.Rules.{Verdict, first_of}
use Rattle.error.specs.declared.Refusal.{Refusal}
use Rattle.error.specs.declared.Refusal.TheVariants.{BadBuffer, BadBudget}
pub use Rattle.registers.specs.Rules.{Banks, banks, value_of, set_of}
use Rattle.registers.specs.Rules.{refuses, bank_of}
use Rattle.nav_command.specs.declared.BranchOp.{BranchOp}
use Rattle.nav_command.specs.declared.BranchOp.TheVariants as B
use Rattle.nav_command.specs.declared.CompareOp.{CompareOp}
use Rattle.nav_command.specs.declared.CompareOp.TheVariants as C
use Rattle.nav_command.specs.declared.Operation.{Operation}
use Rattle.nav_command.specs.declared.Operation.TheVariants as O
use Rattle.nav_command.specs.declared.CommandGroup.{CommandGroup}
use Rattle.nav_command.specs.declared.CommandGroup.TheVariants as G
use Rattle.nav_command.specs.declared.Operand.{Operand}
use Rattle.nav_command.specs.declared.DecodedCommand.{DecodedCommand}
use Rattle.vm.specs.declared.NavRequest.{NavRequest}
use Rattle.vm.specs.declared.NavRequest.TheVariants as Q
use Rattle.vm.specs.declared.Step.{Step}
use Rattle.vm.specs.declared.Step.TheVariants.{Continue, Skipped, Halted, Branch}
use Rattle.vm.specs.declared.Stepped.{Stepped}
use Rattle.vm.specs.declared.End.{End}
use Rattle.vm.specs.declared.End.TheVariants as E
use Rattle.vm.specs.declared.Ran.{Ran}
use Rattle.vm.specs.declared.Next.{Next}
use Rattle.vm.specs.declared.Next.TheVariants.{Go, Stop}
use Rattle.vm.specs.declared.HdmvVm.{HdmvVm}

-- what a call leaves: the banks, and its answer
pub record After (A : Type 0) : Type 0 where
  pub regs : Banks
  pub answer : A

abbrev pub with : {A : Type 0} → Banks → A → After A
with s r = record { regs = s; answer = r }

abbrev pub after : {A : Type 0} → List ℕ → List ℕ → A → After A
after g p r = with (banks g p) r

-- The answers of one command.

abbrev pub stepped : Step → ℕ → Stepped
stepped k pc = record { step = k; pc = pc }

abbrev pub on : ℕ → Stepped
on pc = stepped Continue pc

abbrev pub halted : ℕ → Stepped
halted pc = stepped Halted pc

abbrev pub leaves : NavRequest → ℕ → Stepped
leaves q pc = stepped (Branch q) pc

-- Branches. GoTo at or past the length halts; an unknown branch does nothing.

abbrev pub go_to : ℕ → ℕ → ℕ → Stepped
go_to target pc count = cond (ltb target count) (on target) (halted pc)

abbrev pub branch_of : BranchOp → ℕ → ℕ → ℕ → ℕ → Stepped
branch_of B.Nop x y pc count = on pc
branch_of B.GoTo x y pc count = go_to x pc count
branch_of B.Break x y pc count = halted pc
branch_of B.JumpObject x y pc count = leaves (Q.JumpObject x) pc
branch_of B.JumpTitle x y pc count = leaves (Q.JumpTitle x) pc
branch_of B.CallObject x y pc count = leaves (Q.CallObject x) pc
branch_of B.CallTitle x y pc count = leaves (Q.CallTitle x) pc
branch_of B.Resume x y pc count = leaves Q.Resume pc
branch_of B.PlayPL x y pc count = leaves (Q.PlayPlayList x) pc
branch_of B.PlayPLatPlayItem x y pc count = leaves (Q.PlayPlayListAtPlayItem x y) pc
branch_of B.PlayPLatMark x y pc count = leaves (Q.PlayPlayListAtMark x y) pc
branch_of B.TerminatePL x y pc count = leaves Q.TerminatePlayList pc
branch_of B.LinkPI x y pc count = leaves (Q.LinkPlayItem x) pc
branch_of B.LinkMK x y pc count = leaves (Q.LinkMark x) pc

abbrev pub exec_branch : Operation → ℕ → ℕ → ℕ → ℕ → Stepped
exec_branch (O.Branch op) x y pc count = branch_of op x y pc count
exec_branch (O.Compare op) x y pc count = on pc
exec_branch (O.Set op) x y pc count = on pc
exec_branch (O.System op) x y pc count = on pc
exec_branch (O.Unknown sub code) x y pc count = on pc

-- Compares. A false one skips one command, pc held at the length; an unknown one holds.

abbrev pub holds : CompareOp → ℕ → ℕ → Bool
holds C.Bc x y = not (eqb (bit_and x y) 0)
holds C.Eq x y = eqb x y
holds C.Ne x y = not (eqb x y)
holds C.Ge x y = leb y x
holds C.Gt x y = ltb y x
holds C.Le x y = leb x y
holds C.Lt x y = ltb x y

abbrev pub holds_for : Operation → ℕ → ℕ → Bool
holds_for (O.Branch op) x y = true
holds_for (O.Compare op) x y = holds op x y
holds_for (O.Set op) x y = true
holds_for (O.System op) x y = true
holds_for (O.Unknown sub code) x y = true

unfoldable pub compare_of : Bool → ℕ → ℕ → Stepped
compare_of held pc count = cond held (on pc) (stepped Skipped (cond (ltb pc count) (pc + 1) count))

-- Set sub-group 1 is always a system request, unknown codes too.

abbrev pub system_of : Operation → ℕ → ℕ → ℕ → Stepped
system_of op x y pc = leaves (Q.SetSystem op x y) pc

unfoldable pub exec_set : ℕ → Operation → Operand → Operand → ℕ → ℕ → ℕ → Banks → After Stepped
exec_set sub op a b x y pc s = cond (eqb sub 1) (with s (system_of op x y pc)) (with (set_of op a b x y s) (on pc))

-- One command by its group, with pc already past it and the values x and y of its operands. Group 3 does nothing.

unfoldable pub acted : CommandGroup → DecodedCommand → ℕ → ℕ → ℕ → ℕ → Banks → After Stepped
acted G.Branch c x y pc count s = with s (exec_branch c.operation x y pc count)
acted G.Compare c x y pc count s = with s (compare_of (holds_for c.operation x y) pc count)
acted G.Set c x y pc count s = exec_set c.sub_group c.operation c.operand1 c.operand2 x y pc s
acted (G.Reserved g) c x y pc count s = with s (on pc)

unfoldable pub exec_of : DecodedCommand → ℕ → ℕ → Banks → After Stepped
exec_of c pc count s = acted c.group c (value_of c.operand1 s) (value_of c.operand2 s) pc count s

-- Fetch, advance pc, act; past the end a halt.

abbrev pub fetched : List ℕ → ℕ → List ℕ
fetched cs at = get_or cs at 0 ∷ map (λ i. get_or cs (at + i) 0) (1 ∷ 2 ∷ 3 ∷ 4 ∷ 5 ∷ 6 ∷ 7 ∷ 8 ∷ 9 ∷ 10 ∷ 11 ∷ [])

unfoldable pub step_of : List ℕ → ℕ → Banks → After Stepped
step_of cs pc s =
    cond (leb (length cs / 12) pc) (with s (halted pc))
    (exec_of (command_of (fetched cs (12 * pc))) (pc + 1) (length cs / 12) s)

-- A run has taken `steps` steps, the last of which skipped or not, and may take `left` more; a spent budget ends it before a fetch.

abbrev pub next_of : Step → Next
next_of Continue = Go false
next_of Skipped = Go true
next_of Halted = Stop E.Halted
next_of (Branch q) = Stop (E.Branch q)

abbrev pub ran : End → ℕ → ℕ → Bool → Ran
ran end pc steps skipped = record { end = end; pc = pc; steps = steps; skipped = skipped }

-- a run ends after its last step, or goes on from where the step left
abbrev pub goes_on_at : Next → After Stepped → ℕ → (Bool → ℕ → Banks → After Ran) → After Ran
goes_on_at (Go skipped) t steps more = more skipped t.answer.pc t.regs
goes_on_at (Stop end) t steps more = with t.regs (ran end t.answer.pc steps false)

unfoldable pub run_from : List ℕ → ℕ → ℕ → Bool → ℕ → Banks → After Ran
run_from cs zero steps skipped pc s = with s (ran E.Spent pc steps skipped)
run_from cs (suc left) steps skipped pc s =
    goes_on_at (next_of (step_of cs pc s).answer.step) (step_of cs pc s) (steps + 1) (run_from cs left (steps + 1))

unfoldable pub run_of : List ℕ → ℕ → ℕ → ℕ → Banks → After Ran
run_of cs left steps pc s = run_from cs left steps false pc s

-- A fresh machine: at its first command, with the default budget.
abbrev pub fresh : HdmvVm
fresh = record { pc = 0; budget = 1_000_000 }

-- The public calls. 6: banks not of 4,096 and 128, or commands not in whole twelves; 7: a budget over 1,000,000; both alter nothing.

unfoldable pub commands_of : List ℕ → Verdict
commands_of cs = refuses BadBuffer (eqb (length cs % 12) 0)

unfoldable pub budget_of : ℕ → Verdict
budget_of budget = refuses BadBudget (leb budget 1_000_000)

abbrev pub verdict_of : List ℕ → ℕ → Banks → Verdict
verdict_of cs budget s =
    first_of (first_of (first_of (bank_of 4096 s.general) (bank_of 128 s.status)) (commands_of cs)) (budget_of budget)

unfoldable pub answered : Verdict → Banks → After Stepped → After (Result Stepped Refusal)
answered (Ok u) s t = with t.regs (Ok t.answer)
answered (Err r) s t = with s (Err r)

unfoldable pub step_answer : List ℕ → ℕ → ℕ → Banks → After (Result Stepped Refusal)
step_answer cs pc budget s = answered (verdict_of cs budget s) s (step_of cs pc s)

-- a plain run doesn't say whether its steps were spent
abbrev pub plain : End → Step
plain E.Halted = Halted
plain E.Spent = Halted
plain (E.Branch q) = Branch q

abbrev pub plainly : After Ran → After Stepped
plainly t = with t.regs (stepped (plain t.answer.end) t.answer.pc)

unfoldable pub run_answer : List ℕ → ℕ → ℕ → Banks → After (Result Stepped Refusal)
run_answer cs pc budget s = answered (verdict_of cs budget s) s (plainly (run_of cs budget 0 pc s))
