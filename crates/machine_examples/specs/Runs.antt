-- Swaps, an unknown compare, and runs of two commands under a budget (document 01, "One command"). Assumes nothing.
use Rattle.std.specs.Prelude.{◌≡◌, refl, false, List, ◌∷◌, ◌++◌, ℕ, set, Result, Ok, Err}
use Rattle.error.specs.declared.Refusal.{Refusal}
use Rattle.error.specs.declared.Refusal.TheVariants.{BadBuffer, BadBudget}
use Rattle.register_model.specs.Rules.{class_of, writable}
use Rattle.common.specs.Rules.{be4}
use Rattle.nav_command.specs.Rules.{branch_of, operand_of, command_of}
use Rattle.nav_command.specs.Rules as nav
use Rattle.registers.specs.Rules.{written_status, written, applied, set_of, bank_of, fresh_general, fresh_status}
use Rattle.vm.specs.declared.End.TheVariants as End
use Rattle.vm.specs.declared.Stepped.{Stepped}
use Rattle.vm.specs.declared.Step.TheVariants.{Continue, Skipped, Halted}
use Rattle.vm.specs.Laws.{one_answer}
use Rattle.vm.specs.Rules as vm
use Rattle.vm.specs.Rules.{Banks, banks, After, after, stepped, compare_of, exec_set, acted, exec_of, fetched, step_of, ran, run_from, run_of, commands_of, budget_of, answered, step_answer, run_answer}
use Rattle.marked_examples.specs.Cases.{command, nop}

-- what the examples compute with
opened : Unit {0}
unfolding class_of writable branch_of operand_of be4 command_of nav.compare_of nav.set_of written_status written applied set_of bank_of compare_of exec_set acted exec_of step_of run_from run_of commands_of budget_of answered step_answer run_answer
opened = tt

-- A new machine stands at its first command, and its budget is the upper end of steps.
new_machine : vm.fresh ≡ record { pc = 0; budget = 1_000_000 }
new_machine = refl

abbrev fresh : Banks
fresh = banks fresh_general fresh_status

-- registers 1 and 2 hold these
abbrev pair : ℕ → ℕ → List ℕ
pair x y = set (set fresh_general 1 x) 2 y

-- A Swap exchanges both registers.
swap : step_answer (command 0x5000_0002 1 2) 0 1 (banks (pair 3 4) fresh_status) ≡ after (pair 4 3) fresh_status (Ok (stepped Continue 1))
unfolding opened
swap = refl

-- Nothing is done unless the first operand names a register: there is no status register 128.
swap_of_none : step_answer (command 0x5000_0002 0x8000_0080 2) 0 1 (banks (pair 3 4) fresh_status) ≡ after (pair 3 4) fresh_status (Ok (stepped Continue 1))
unfolding opened
swap_of_none = refl

-- An unknown compare holds: the next command is not skipped.
unknown_compare : step_answer (command 0x4840_0800 1 7 ++ nop) 0 1 fresh ≡ after fresh_general fresh_status (Ok (stepped Continue 1))
unfolding opened
unknown_compare = refl

-- A compare that does not hold skips the next command; past the end pc is the length.
last_compare : step_answer (command 0x4840_0200 1 7) 0 1 fresh ≡ after fresh_general fresh_status (Ok (stepped Skipped 1))
unfolding opened
last_compare = refl

-- Move r1, 16 and Move r2, 9.
abbrev moves : List ℕ
moves = command 0x5040_0001 1 16 ++ command 0x5040_0001 2 9

-- The second of them is the twelve bytes at 12.
second_command : fetched moves 12 ≡ command 0x5040_0001 2 9
second_command = refl

-- Both are obeyed, and a halt past the end is told beside the pc.
both_obeyed : run_answer moves 0 3 fresh ≡ after (pair 16 9) fresh_status (Ok (stepped Halted 2))
unfolding opened
both_obeyed = refl

-- A spent budget ends a run before a fetch.
one_step : run_answer moves 0 1 fresh ≡ after (pair 16 0) fresh_status (Ok (stepped Halted 1))
unfolding opened
one_step = refl

-- So much a run of an accepted file tells: that its steps were spent, and how many they were.
spent_run : run_of moves 1 0 0 fresh ≡ after (pair 16 0) fresh_status (ran End.Spent 1 1 false)
unfolding opened
spent_run = refl

-- Commands not in whole twelves are refused, then a budget over 1,000,000, and nothing is altered.
cut_commands : run_answer (0 ∷ moves) 0 1_000_001 fresh ≡ after fresh_general fresh_status (Err BadBuffer)
unfolding opened
cut_commands = refl

over_budget : run_answer moves 0 1_000_001 fresh ≡ after fresh_general fresh_status (Err BadBudget)
unfolding opened
over_budget = refl

-- Any two outcomes allowed are equal: of a step, and of a run.
abbrev other_step : After (Result Stepped Refusal)
other_step = after (pair 4 3) fresh_status (Ok (stepped Continue 1))

one_swap : after (pair 4 3) fresh_status (Ok (stepped Continue 1)) ≡ other_step
unfolding opened
one_swap = one_answer.step (command 0x5000_0002 1 2) 0 1 (banks (pair 3 4) fresh_status) _ other_step refl refl

abbrev other_run : After (Result Stepped Refusal)
other_run = after (pair 16 9) fresh_status (Ok (stepped Halted 2))

one_run : after (pair 16 9) fresh_status (Ok (stepped Halted 2)) ≡ other_run
unfolding opened
one_run = one_answer.run moves 0 3 fresh _ other_run refl refl
