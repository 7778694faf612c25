-- Examples of what the calls for banks, sessions, budgets and the command machine hand out (include/mescjadro.h). Assumes nothing.
use Rattle.std.specs.Prelude.{◌≡◌, refl, List, [], ◌∷◌, ◌++◌, ℕ, set, replicate}
use Rattle.common.specs.Rules.{be4, bytes4}
use Rattle.nav_command.specs.Rules.{branch_of, set_of as set_code, operand_of, command_of}
use Rattle.registers.specs.Rules.{banks, fresh_general, fresh_status, written, applied, set_of, bank_of, read_of, put_of}
use Rattle.vm.specs.Rules.{exec_set, acted, exec_of, step_of, run_from, run_of, commands_of, budget_of, answered, step_answer, run_answer}
use Rattle.lent.specs.Rules.{handed}
use Rattle.player_calls.specs.Rules.{banked, told, machine, fresh_banks, fresh_session, default_budgets, read_call, set_call, step_call, run_call}

-- what the examples compute with
opened : Unit {0}
unfolding bytes4 branch_of set_code operand_of be4 command_of written applied set_of bank_of read_of put_of exec_set acted exec_of step_of run_from run_of commands_of budget_of answered step_answer run_answer fresh_banks fresh_session default_budgets read_call set_call step_call run_call
opened = tt

-- the bytes of a command's three words, and P2
abbrev pub command : ℕ → ℕ → ℕ → List ℕ
command w x y = bytes4 w ++ bytes4 x ++ bytes4 y

abbrev pub p2 : List ℕ
p2 = command 0x5040_0001 5 0x10

-- Fresh banks: all zero.
cleared : fresh_banks (replicate 4096 9) (replicate 128 9) ≡ banked 0 (banks fresh_general fresh_status)
unfolding opened
cleared = refl

-- 6 bad buffer: both banks stay as they were.
one_register : fresh_banks (9 ∷ []) (replicate 128 9) ≡ banked 6 (banks (9 ∷ []) (replicate 128 9))
unfolding opened
one_register = refl

-- A fresh session: 65,536, 0, 0, 0, 0, 0.
fresh_session_shown : fresh_session (replicate 6 9) ≡ handed 0 (65536 ∷ 0 ∷ 0 ∷ 0 ∷ 0 ∷ 0 ∷ [])
unfolding opened
fresh_session_shown = refl

-- 6 bad buffer: a session has six numbers.
five_numbers : fresh_session (replicate 5 9) ≡ handed 6 (replicate 5 9)
unfolding opened
five_numbers = refl

-- The largest budgets: 1,000,000, 100,000, 10,000.
largest_budgets : default_budgets (replicate 3 9) ≡ handed 0 (1000000 ∷ 100000 ∷ 10000 ∷ [])
unfolding opened
largest_budgets = refl

-- 6 bad buffer: there are three budgets.
four_numbers : default_budgets (replicate 4 9) ≡ handed 6 (replicate 4 9)
unfolding opened
four_numbers = refl

-- A general register: 1 and its value.
register_5 : read_call 4096 (set fresh_general 5 7) 5 (9 ∷ 9 ∷ []) ≡ handed 0 (1 ∷ 7 ∷ [])
unfolding opened
register_5 = refl

-- 6 bad buffer: a bank of general registers has 4,096 numbers.
no_general_bank : read_call 4096 fresh_status 5 (9 ∷ 9 ∷ []) ≡ handed 6 (9 ∷ 9 ∷ [])
unfolding opened
no_general_bank = refl

-- There is no status register 128, which is no refusal.
register_128 : read_call 128 fresh_status 128 (9 ∷ 9 ∷ []) ≡ handed 0 (0 ∷ 0 ∷ [])
unfolding opened
register_128 = refl

-- 6 bad buffer: the result of a status register has two numbers.
one_number : read_call 128 fresh_status 5 (9 ∷ []) ≡ handed 6 (9 ∷ [])
unfolding opened
one_number = refl

-- The player writes a general register.
set_register_5 : set_call 4096 fresh_general 5 7 ≡ handed 0 (set fresh_general 5 7)
unfolding opened
set_register_5 = refl

-- 6 bad buffer: the bank stays as it was.
set_in_one_register : set_call 4096 (9 ∷ []) 0 7 ≡ handed 6 (9 ∷ [])
unfolding opened
set_in_one_register = refl

-- The player writes status register 8, which commands may not.
set_status_8 : set_call 128 fresh_status 8 7 ≡ handed 0 (set fresh_status 8 7)
unfolding opened
set_status_8 = refl

-- Where no register has the number nothing is written, which is no refusal.
set_status_128 : set_call 128 (replicate 128 9) 128 7 ≡ handed 0 (replicate 128 9)
unfolding opened
set_status_128 = refl

-- 0 continue, and the pc past the command: P2 sets r5 to 16.
step : step_call p2 0 1 (banks fresh_general fresh_status) (replicate 5 9) ≡ machine (banks (set fresh_general 5 16) fresh_status) (told 0 1 (replicate 5 0))
unfolding opened
step = refl

-- 6 bad buffer, an answer of four numbers: banks, pc and answer stay as they were.
step_into_four : step_call p2 0 1 (banks fresh_general fresh_status) (replicate 4 9) ≡ machine (banks fresh_general fresh_status) (told 6 0 (replicate 4 9))
unfolding opened
step_into_four = refl

-- 3 branch and its request, 5 JumpTitle: the run ends past it.
run : run_call (p2 ++ command 0x2181_0000 1 0) 0 9 (banks fresh_general fresh_status) (replicate 5 9)
    ≡ machine (banks (set fresh_general 5 16) fresh_status) (told 0 2 (3 ∷ 5 ∷ 1 ∷ 0 ∷ 0 ∷ []))
unfolding opened
run = refl

-- 2 where the budget is spent, before a fetch.
spent : run_call p2 0 0 (banks fresh_general fresh_status) (replicate 5 9) ≡ machine (banks fresh_general fresh_status) (told 0 0 (2 ∷ 0 ∷ 0 ∷ 0 ∷ 0 ∷ []))
unfolding opened
spent = refl
