-- What the calls for C of banks, sessions, budgets and the machine hand back and leave, by `numbers`; a refusal alters nothing. Assumes nothing.
use Rattle.std.specs.Prelude.{List, [], ◌∷◌, cond, ◌&&◌, ℕ, replicate, Err, None, Ok, Option, Result, Some}
use Rattle.error.specs.Rules.{number_of}
use Rattle.error.specs.declared.Refusal.TheVariants.{BadBuffer}
use Rattle.numbers.specs.Rules.{step_numbers, session_numbers, budget_numbers}
use Rattle.registers.specs.Rules.{bank_of, read_of, put_of}
use Rattle.session.specs.Rules.{fresh, defaults}
use Rattle.vm.specs.Rules.{Banks, banks, After, step_answer, run_answer}
use Rattle.lent.specs.Rules.{sized, verdict_number, Handed, handed, refused, into}
use Rattle.error.specs.declared.Refusal.{Refusal}
use Rattle.vm.specs.declared.Stepped.{Stepped}

-- ---- registers, sessions and budgets

-- What a call hands back, and what the banks then hold.
pub record Banked : Type 0 where
  pub number : ℕ
  pub regs : Banks

abbrev pub banked : ℕ → Banks → Banked
banked n s = record { number = n; regs = s }

unfoldable pub fresh_banks : List ℕ → List ℕ → Banked
fresh_banks g p =
    cond (sized 4096 g && sized 128 p) (banked 0 (banks (replicate 4096 0) (replicate 128 0))) (banked (number_of BadBuffer) (banks g p))

unfoldable pub fresh_session : List ℕ → Handed
fresh_session l = into 6 l (handed 0 (session_numbers fresh))

unfoldable pub default_budgets : List ℕ → Handed
default_budgets l = into 3 l (handed 0 (budget_numbers defaults))

abbrev pub read_by : Result (Option ℕ) Refusal → List ℕ → Handed
read_by (Ok (Some v)) l = handed 0 (1 ∷ v ∷ [])
read_by (Ok None) l = handed 0 (0 ∷ 0 ∷ [])
read_by (Err r) l = refused r l

unfoldable pub read_call : ℕ → List ℕ → ℕ → List ℕ → Handed
read_call size bank i l = into 2 l (read_by (read_of size bank i) l)

unfoldable pub set_call : ℕ → List ℕ → ℕ → ℕ → Handed
set_call size bank i v = handed (verdict_number (bank_of size bank)) (put_of size bank i v)

-- ---- the command machine

-- What a call hands back, the pc that it leaves, and what the answer's array then holds.
pub record Told : Type 0 where
  pub number : ℕ
  pub pc : ℕ
  pub held : List ℕ

abbrev pub told : ℕ → ℕ → List ℕ → Told
told n pc l = record { number = n; pc = pc; held = l }

abbrev pub told_by : Result Stepped Refusal → ℕ → List ℕ → Told
told_by (Ok t) pc l = told 0 t.pc (step_numbers t.step)
told_by (Err r) pc l = told (number_of r) pc l

-- the same beside the banks
pub record Machine : Type 0 where
  pub regs : Banks
  pub left : Told

abbrev pub machine : Banks → Told → Machine
machine s t = record { regs = s; left = t }

abbrev pub machine_by : After (Result Stepped Refusal) → ℕ → List ℕ → Machine
machine_by a pc l = machine a.regs (told_by a.answer pc l)

abbrev pub machine_into : Banks → ℕ → List ℕ → Machine → Machine
machine_into s pc l m = cond (sized 5 l) m (machine s (told (number_of BadBuffer) pc l))

unfoldable pub step_call : List ℕ → ℕ → ℕ → Banks → List ℕ → Machine
step_call cs pc budget s l = machine_into s pc l (machine_by (step_answer cs pc budget s) pc l)

unfoldable pub run_call : List ℕ → ℕ → ℕ → Banks → List ℕ → Machine
run_call cs pc budget s l = machine_into s pc l (machine_by (run_answer cs pc budget s) pc l)
