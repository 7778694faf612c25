-- What follows from the rules of one command and of a run, for the layers above. Assumes nothing.
use Rattle.std.proofs.Math.Path.{◌≡◌}
use Rattle.std.specs.Prelude.{Bool, List, eqb, leb, length, Ok}
use Rattle.std.proofs.Math.Bool.{true, false, cond}
use Prim.Native.Nat.{ℕ, zero, suc, ◌+◌, ◌*◌, ◌/◌, ◌≤◌}
use Rattle.std.proofs.Common.{arith}
use Rattle.std.proofs.Math.Dec.{ltb}
use borrow.Author.Tests.{leb-false, ltb-true}
use Rattle.laws.specs.Cases.{either_way, by_test}
use Rattle.nav_command.specs.Rules.{command_of}
pub use Rattle.registers.specs.Laws.{Unique, unique, Sized}
use Rattle.registers.specs.Laws.{sized_set, fine_bank}
use Rattle.registers.specs.Rules.{bank_of}
use Rattle.error.specs.Rules.{first_of}
use Rattle.error.specs.Laws.{both_fine}
use Rattle.nav_command.specs.declared.BranchOp.{BranchOp}
use Rattle.nav_command.specs.declared.BranchOp.TheVariants as B
use Rattle.nav_command.specs.declared.CommandGroup.{CommandGroup}
use Rattle.nav_command.specs.declared.CommandGroup.TheVariants as G
use Rattle.nav_command.specs.declared.DecodedCommand.{DecodedCommand}
use Rattle.nav_command.specs.declared.Operand.{Operand}
use Rattle.nav_command.specs.declared.Operation.{Operation}
use Rattle.nav_command.specs.declared.Operation.TheVariants as O
use Rattle.vm.specs.declared.End.TheVariants as E
use Rattle.vm.specs.declared.NavRequest.{NavRequest}
use Rattle.vm.specs.declared.Next.{Next}
use Rattle.vm.specs.declared.Next.TheVariants.{Go, Stop}
use Rattle.vm.specs.declared.Ran.{Ran}
use Rattle.vm.specs.declared.Step.{Step}
use Rattle.vm.specs.declared.Step.TheVariants.{Continue, Skipped, Halted, Branch}
use Rattle.vm.specs.declared.Stepped.{Stepped}
use Rattle.vm.specs.Rules.{Banks, After, with, value_of, on, halted, go_to, branch_of, exec_branch, holds_for, compare_of, set_of, system_of, exec_set, acted, exec_of, fetched, step_of, next_of, goes_on_at, run_from, run_of, commands_of, budget_of, verdict_of, step_answer, run_answer}

-- Any two answers that a promise of the public calls allows are equal.

pub record OneAnswer : Type 0 where
  pub step : (cs : List ℕ) (pc budget : ℕ) (s : Banks) → Unique (step_answer cs pc budget s)
  pub run : (cs : List ℕ) (pc budget : ℕ) (s : Banks) → Unique (run_answer cs pc budget s)

pub one_answer : OneAnswer
one_answer =
    record {
      step = λ cs pc budget s. unique (step_answer cs pc budget s);
      run = λ cs pc budget s. unique (run_answer cs pc budget s);
    }

-- What the tests of the input tell where they pass: both banks have all their registers.

pub fine_banks : (cs : List ℕ) (budget : ℕ) (s : Banks) → verdict_of cs budget s ≡ Ok tt → Sized 4096 128 s
fine_banks cs budget s h =
    let general = bank_of 4096 s.general in
    let status = bank_of 128 s.status in
    let (both, _) = both_fine (first_of general status) (commands_of cs) (both_fine _ (budget_of budget) h).0 in
    let (g, p) = both_fine general status both in
    (fine_bank 4096 s.general g, fine_bank 128 s.status p)

-- What every step keeps, a run keeps.

module _ (cs : List ℕ) (Keeps : ℕ → Banks → Type 0) (kept : (pc : ℕ) (s : Banks) → Keeps pc s → Keeps (step_of cs pc s).answer.pc (step_of cs pc s).regs) where
  abbrev Left : After Ran → Type 0
  Left t = Keeps t.answer.pc t.regs

  turn : (n : Next) (t : After Stepped) (steps : ℕ) (more : Bool → ℕ → Banks → After Ran) → Keeps t.answer.pc t.regs
      → ((k : Bool) → Left (more k t.answer.pc t.regs)) → Left (goes_on_at n t steps more)
  turn (Go k) t steps more h m = m k
  turn (Stop end) t steps more h m = h

  from : (left steps : ℕ) (skipped : Bool) (pc : ℕ) (s : Banks) → Keeps pc s → Left (run_from cs left steps skipped pc s)
  unfolding run_from
  from zero steps skipped pc s h = h
  from (suc left) steps skipped pc s h =
      turn (next_of (step_of cs pc s).answer.step) (step_of cs pc s) (steps + 1) (run_from cs left (steps + 1)) (kept pc s h)
      (λ k. from left (steps + 1) k (step_of cs pc s).answer.pc (step_of cs pc s).regs (kept pc s h))

  run_keeps : (left steps pc : ℕ) (s : Banks) → Keeps pc s → Left (run_of cs left steps pc s)
  unfolding run_of
  run_keeps left steps pc s h = from left steps false pc s h

-- what holds of a system request and of a Set holds of all of their group, and what holds of a halt and of a command holds of every step
either_set : (P : After Stepped → Type 0) (sub : ℕ) (op : Operation) (a b : Operand) (x y pc : ℕ) (s : Banks)
    → P (with s (system_of op x y pc)) → P (with (set_of op a b x y s) (on pc)) → P (exec_set sub op a b x y pc s)
unfolding exec_set
either_set P sub op a b x y pc s p q = either_way P (eqb sub 1) {x = with s (system_of op x y pc)} {y = with (set_of op a b x y s) (on pc)} p q

either_step : (P : After Stepped → Type 0) (cs : List ℕ) (pc : ℕ) (s : Banks)
    → P (with s (halted pc)) → P (exec_of (command_of (fetched cs (12 * pc))) (pc + 1) (length cs / 12) s) → P (step_of cs pc s)
unfolding step_of
either_step P cs pc s p q =
    either_way P (leb (length cs / 12) pc) {x = with s (halted pc)} {y = exec_of (command_of (fetched cs (12 * pc))) (pc + 1) (length cs / 12) s} p q

-- pc stays within every bound that the commands and the start are within.

module _ (top pc count : ℕ) (p : pc ≤ top) (n : count ≤ top) where
  abbrev Within : Stepped → Type 0
  Within r = r.pc ≤ top

  within_goto : (x : ℕ) → Within (go_to x pc count)
  within_goto x = by_test (ltb x count) taken left where
    taken : ltb x count ≡ true → Within (go_to x pc count)
    taken h = rw h (omega (arith, ltb-true x count h))

    left : ltb x count ≡ false → Within (go_to x pc count)
    left h = rw h p

  within_branch : (op : BranchOp) (x y : ℕ) → Within (branch_of op x y pc count)
  within_branch B.Nop x y = p
  within_branch B.GoTo x y = within_goto x
  within_branch B.Break x y = p
  within_branch B.JumpObject x y = p
  within_branch B.JumpTitle x y = p
  within_branch B.CallObject x y = p
  within_branch B.CallTitle x y = p
  within_branch B.Resume x y = p
  within_branch B.PlayPL x y = p
  within_branch B.PlayPLatPlayItem x y = p
  within_branch B.PlayPLatMark x y = p
  within_branch B.TerminatePL x y = p
  within_branch B.LinkPI x y = p
  within_branch B.LinkMK x y = p

  within_operation : (op : Operation) (x y : ℕ) → Within (exec_branch op x y pc count)
  within_operation (O.Branch op) x y = within_branch op x y
  within_operation (O.Compare op) x y = p
  within_operation (O.Set op) x y = p
  within_operation (O.System op) x y = p
  within_operation (O.Unknown sub code) x y = p

  within_compare : (held : Bool) → Within (compare_of held pc count)
  unfolding compare_of
  within_compare true = p
  within_compare false = by_test (ltb pc count) taken left where
    taken : ltb pc count ≡ true → cond (ltb pc count) (pc + 1) count ≤ top
    taken h = rw h (omega (arith, ltb-true pc count h))

    left : ltb pc count ≡ false → cond (ltb pc count) (pc + 1) count ≤ top
    left h = rw h n

  within_group : (g : CommandGroup) (c : DecodedCommand) (x y : ℕ) (s : Banks) → Within (acted g c x y pc count s).answer
  unfolding acted
  within_group G.Branch c x y s = within_operation c.operation x y
  within_group G.Compare c x y s = within_compare (holds_for c.operation x y)
  within_group G.Set c x y s =
      either_set (λ (t : After Stepped). Within t.answer) c.sub_group c.operation c.operand1 c.operand2 x y pc s p p
  within_group (G.Reserved g) c x y s = p

within_exec : (top pc count : ℕ) → pc ≤ top → count ≤ top → (c : DecodedCommand) (s : Banks) → (exec_of c pc count s).answer.pc ≤ top
unfolding exec_of
within_exec top pc count p n c s = within_group top pc count p n c.group c (value_of c.operand1 s) (value_of c.operand2 s) s

within_step : (cs : List ℕ) (top pc : ℕ) (s : Banks) → length cs / 12 ≤ top → pc ≤ top → (step_of cs pc s).answer.pc ≤ top
unfolding step_of
within_step cs top pc s n p = by_test (leb (length cs / 12) pc) past obeyed where
  past : leb (length cs / 12) pc ≡ true → (step_of cs pc s).answer.pc ≤ top
  past h = rw h p

  obeyed : leb (length cs / 12) pc ≡ false → (step_of cs pc s).answer.pc ≤ top
  obeyed h = rw h (within_exec top (pc + 1) (length cs / 12) (omega (arith, leb-false (length cs / 12) pc h)) n (command_of (fetched cs (12 * pc))) s)

pub run_within : (cs : List ℕ) (top left steps pc : ℕ) (s : Banks) → length cs / 12 ≤ top → pc ≤ top → (run_of cs left steps pc s).answer.pc ≤ top
run_within cs top left steps pc s n p = run_keeps cs (λ pc s. pc ≤ top) (λ pc s h. within_step cs top pc s n h) left steps pc s p

-- Both banks keep their lengths.

module _ (g p : ℕ) where
  sized_group : (k : CommandGroup) (c : DecodedCommand) (x y pc count : ℕ) (s : Banks) → Sized g p s → Sized g p (acted k c x y pc count s).regs
  unfolding acted
  sized_group G.Branch c x y pc count s h = h
  sized_group G.Compare c x y pc count s h = h
  sized_group G.Set c x y pc count s h =
      either_set (λ (t : After Stepped). Sized g p t.regs) c.sub_group c.operation c.operand1 c.operand2 x y pc s h (sized_set g p c.operation c.operand1 c.operand2 x y s h)
  sized_group (G.Reserved n) c x y pc count s h = h

  sized_exec : (c : DecodedCommand) (pc count : ℕ) (s : Banks) → Sized g p s → Sized g p (exec_of c pc count s).regs
  unfolding exec_of
  sized_exec c pc count s h = sized_group c.group c (value_of c.operand1 s) (value_of c.operand2 s) pc count s h

  pub sized_step : (cs : List ℕ) (pc : ℕ) (s : Banks) → Sized g p s → Sized g p (step_of cs pc s).regs
  sized_step cs pc s h =
      either_step (λ (t : After Stepped). Sized g p t.regs) cs pc s h (sized_exec (command_of (fetched cs (12 * pc))) (pc + 1) (length cs / 12) s h)

  pub run_sized : (cs : List ℕ) (left steps pc : ℕ) (s : Banks) → Sized g p s → Sized g p (run_of cs left steps pc s).regs
  run_sized cs left steps pc s h = run_keeps cs (λ pc s. Sized g p s) (λ pc s h. sized_step cs pc s h) left steps pc s h

-- What holds of every step's request, from registers that every step keeps fit, holds of the run's.

module _ (cs : List ℕ) (Fit : Banks → Type 0) (kept : (pc : ℕ) (s : Banks) → Fit s → Fit (step_of cs pc s).regs) (Asked : NavRequest → Type 0)
    (asked : (pc : ℕ) (s : Banks) (q : NavRequest) → Fit s → (step_of cs pc s).answer.step ≡ Branch q → Asked q) where
  last : (k : Step) (t : After Stepped) (steps : ℕ) (more : Bool → ℕ → Banks → After Ran) (q : NavRequest) → (k ≡ Branch q → Asked q)
      → ((b : Bool) → (more b t.answer.pc t.regs).answer.end ≡ E.Branch q → Asked q)
      → (goes_on_at (next_of k) t steps more).answer.end ≡ E.Branch q → Asked q
  last Continue t steps more q a m e = m false e
  last Skipped t steps more q a m e = m true e
  last Halted t steps more q a m e = let z : ◌≡◌ {A = ℕ} 0 1 = cc in absurd (omega arith)
  last (Branch r) t steps more q a m e = a (cc)

  asks : (left steps : ℕ) (skipped : Bool) (pc : ℕ) (s : Banks) (q : NavRequest) → Fit s → (run_from cs left steps skipped pc s).answer.end ≡ E.Branch q → Asked q
  unfolding run_from
  asks zero steps skipped pc s q h e = let z : ◌≡◌ {A = ℕ} 0 1 = cc in absurd (omega arith)
  asks (suc left) steps skipped pc s q h e =
      last (step_of cs pc s).answer.step (step_of cs pc s) (steps + 1) (run_from cs left (steps + 1)) q (asked pc s q h)
      (λ k. asks left (steps + 1) k (step_of cs pc s).answer.pc (step_of cs pc s).regs q (kept pc s h)) e

  pub run_asks : (left steps pc : ℕ) (s : Banks) (q : NavRequest) → Fit s → (run_of cs left steps pc s).answer.end ≡ E.Branch q → Asked q
  unfolding run_of
  run_asks left steps pc s q h e = asks left steps false pc s q h e
