-- Fresh banks, and the player's reads and writes of a bank (document 01, "One command"). Assumes nothing.
use Rattle.std.specs.Prelude.{◌≡◌, refl, true, false, List, [], ◌∷◌, map, ℕ, get_or, set, Option, Some, None, Result, Ok, Err}
use Rattle.error.specs.declared.Refusal.{Refusal}
use Rattle.error.specs.declared.Refusal.TheVariants.{BadBuffer, BadBudget}
use Rattle.nav_command.specs.Rules.{operand_of}
use Rattle.registers.specs.declared.Raw.{Raw}
use Rattle.registers.specs.Laws.{one_answer}
use Rattle.registers.specs.Pieces.{raw, meant}
use Rattle.registers.specs.Rules.{banks, value_of, fresh_general, fresh_status, refuses, bank_of, read_of, put_of}

-- what the examples compute with
opened : Unit {0}
unfolding bank_of read_of put_of
opened = tt

-- All registers of a fresh bank are zero.
last_general : get_or fresh_general 4095 9 ≡ 0
last_general = refl

last_status : get_or fresh_status 127 9 ≡ 0
last_status = refl

-- status register 5 holds 7
abbrev bank : List ℕ
bank = set fresh_status 5 7

a_register : read_of 128 bank 5 ≡ Ok (Some 7)
unfolding opened
a_register = refl

-- An immediate is its word, a status register holds its value, and an absent operand is 0.
values : map (λ (a : Raw). value_of (meant a) (banks fresh_general bank)) (raw true true 5 ∷ raw true false 0x8000_0005 ∷ raw false true 5 ∷ []) ≡ 5 ∷ 7 ∷ 0 ∷ []
unfolding opened operand_of
values = refl

-- General registers are 4,096.
last_general_read : read_of 4096 (set fresh_general 4095 7) 4095 ≡ Ok (Some 7)
unfolding opened
last_general_read = refl

last_general_written : get_or (put_of 4096 fresh_general 4095 9) 4095 0 ≡ 9
unfolding opened
last_general_written = refl

-- A number from 128 on names no status register: nothing is read or written there.
no_register : read_of 128 bank 128 ≡ Ok None
unfolding opened
no_register = refl

nothing_written : put_of 128 bank 128 9 ≡ bank
unfolding opened
nothing_written = refl

-- A bank of another length is refused, and stays as it was.
other_length : read_of 4096 bank 5 ≡ Err BadBuffer
unfolding opened
other_length = refl

write_refused : bank_of 4096 bank ≡ Err BadBuffer
unfolding opened
write_refused = refl

kept : put_of 4096 bank 5 9 ≡ bank
unfolding opened
kept = refl

-- There are 128 status registers: not one more.
banks_of_128_and_129 : bank_of 128 bank ∷ bank_of 128 (0 ∷ bank) ∷ [] ≡ Ok tt ∷ Err BadBuffer ∷ []
unfolding opened
banks_of_128_and_129 = refl

-- A number is given exactly when its test fails: here that of a budget.
budget_failed : refuses BadBudget false ≡ Err BadBudget
budget_failed = refl

budget_passed : refuses BadBudget true ≡ Ok tt
budget_passed = refl

-- A write by the player reaches that register alone.
written : put_of 128 bank 6 9 ≡ set (set fresh_status 5 7) 6 9
unfolding opened
written = refl

-- No register is protected from the player: register 8, which no command may write.
read_only_written : put_of 128 bank 8 9 ≡ set (set fresh_status 5 7) 8 9
unfolding opened
read_only_written = refl

-- Any two outcomes allowed are equal: of a read, and of a write.
abbrev other_read : Result (Option ℕ) Refusal
other_read = Ok (Some 7)

one_read : (Ok (Some 7)) ≡ other_read
unfolding opened
one_read = one_answer.reads 128 bank 5 (Ok (Some 7)) other_read refl refl

abbrev other_bank : List ℕ
other_bank = set bank 6 9

one_bank : set bank 6 9 ≡ other_bank
unfolding opened
one_bank = one_answer.writes 128 bank 6 9 (set bank 6 9) other_bank refl refl
