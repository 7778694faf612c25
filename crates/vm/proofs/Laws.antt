-- The laws of one command and of a run: how what the calls promise makes what the rules say. Assumes nothing.
use mathlib.Core.Path.{◌≡◌, refl, sym, ap, ◌∙◌}
use mathlib.Core.Bool.{Bool, false}
use mathlib.Core.List.{List, [], ◌∷◌, map}
use Prim.Native.Nat.{ℕ, zero, suc, ◌+◌, ◌-◌, ◌≤◌, ◌<◌}
use native.Mathlib.Nat.{add_assoc}
use native.Mathlib.Omega.{arith}
use lib.ListN.{length, get_or}
use borrow.Author.Tests.{ne_eqb}
use Rattle.std.specs.Prelude.{take, drop, Ok}
use Rattle.std.proofs.Common.{add-one}
use Rattle.laws.specs.Part.{part_cons}
use Rattle.laws.specs.Table.{listed}
use Rattle.common.specs.Rules.{be4}
use Rattle.nav_command.specs.Rules.{byte_at, group_bits, sub_of, groups, command_of, gotos, jumps, plays, compares}
use Rattle.nav_command.specs.Rules as nav
use Rattle.nav_command.proofs.Laws.{no_row_1}
use Rattle.nav_command.specs.declared.Operand.{Operand}
use Rattle.nav_command.specs.declared.Operation.{Operation}
use Rattle.nav_command.specs.declared.Operation.TheVariants.{Compare, Unknown}
use Rattle.vm.specs.declared.End.{End}
use Rattle.vm.specs.declared.End.TheVariants.{Spent}
use Rattle.vm.specs.declared.Next.{Next}
use Rattle.vm.specs.declared.Next.TheVariants.{Go, Stop}
use Rattle.registers.specs.Laws.{sets_nothing}
use Rattle.registers.specs.Rules.{effect_for}
use Rattle.vm.specs.declared.Ran.{Ran}
use Rattle.vm.specs.declared.Step.{Step}
use Rattle.vm.specs.declared.Step.TheVariants.{Continue, Skipped, Halted, Branch}
use Rattle.vm.specs.declared.Stepped.{Stepped}
use Rattle.error.specs.Rules.{Verdict}
use Rattle.vm.specs.Rules.{Banks, After, with, stepped, on, holds_for, exec_set, fetched, step_of, next_of, ran, goes_on_at, run_from, run_of, plain, plainly, answered}
use Rattle.vm.specs.Pieces.{single}

-- the operands' numbers
module _ (cs : List ℕ) (at : ℕ) where
  pub first_word : be4 cs (at + 4) ≡ be4 (fetched cs at) 4
  unfolding be4
  first_word = simp add_assoc

  pub second_word : be4 cs (at + 8) ≡ be4 (fetched cs at) 8
  unfolding be4
  second_word = simp add_assoc

-- whether a compare holds goes by its code alone
code_alone : (d e : Operation) (x y : ℕ) (row : List Operation) (i : ℕ) → holds_for d x y ≡ holds_for e x y → holds_for (get_or row i d) x y ≡ holds_for (get_or row i e) x y
code_alone d e x y [] i h = h
code_alone d e x y (o ∷ row) zero h = refl
code_alone d e x y (o ∷ row) (suc i) h = code_alone d e x y row i h

pub any_sub : (sub code x y : ℕ) → holds_for (nav.compare_of 0 code) x y ≡ holds_for (nav.compare_of sub code) x y
unfolding nav.compare_of
any_sub sub zero x y = refl
any_sub sub (suc code) x y = code_alone (Unknown 0 (suc code)) (Unknown sub (suc code)) x y (map Compare compares) code refl

-- sub-groups from 2 on have no Set that changes anything
pub no_set : (sub code : ℕ) (a b : Operand) (x y pc : ℕ) (s : Banks) → 2 ≤ sub → with s (on pc) ≡ exec_set sub (nav.set_of sub code) a b x y pc s
unfolding exec_set nav.set_of
no_set sub code a b x y pc s h =
    let u : Unknown sub code ≡ nav.set_of sub code = no_row_1 nav.set_rows sub code (Unknown sub code) h in
    rw (ne_eqb sub 1 (λ q. omega arith), ← sets_nothing (nav.set_of sub code) a b x y s (ap (λ o. effect_for o x y) (sym u)))

-- Runs.

module _ (cs : List ℕ) (pc : ℕ) (s : Banks) where
  -- a run that has no step left
  pub spent : {budget steps : ℕ} (skipped : Bool) → steps ≡ budget → with s (ran Spent pc budget skipped) ≡ run_from cs (budget - steps) steps skipped pc s
  unfolding run_from
  spent {budget} {steps} skipped e =
      let none : budget - steps ≡ 0 = omega arith in
      rw (none, e)

  opened : (left steps : ℕ) (skipped : Bool)
      → run_from cs (suc left) steps skipped pc s ≡ goes_on_at (next_of (step_of cs pc s).answer.step) (step_of cs pc s) (steps + 1) (run_from cs left (steps + 1))
  unfolding run_from
  opened left steps skipped = refl

  -- a turn of a run: it takes a step, and goes on or ends by what the step answers
  module _ (skipped : Bool) {budget steps : ℕ} {t : After Stepped} {next : Next} (some : steps < budget) (e : t ≡ step_of cs pc s) (n : next ≡ next_of t.answer.step) where
    turned : run_from cs (budget - steps) steps skipped pc s ≡ goes_on_at next t (steps + 1) (run_from cs (budget - (steps + 1)) (steps + 1))
    turned =
        let one : budget - steps ≡ suc (budget - (steps + 1)) = omega arith in
        rw (one, n, e) (opened (budget - (steps + 1)) steps skipped)

    pub goes_on : {skips : Bool} → next ≡ Go skips → run_from cs (budget - (steps + 1)) (steps + 1) skips t.answer.pc t.regs ≡ run_from cs (budget - steps) steps skipped pc s
    goes_on g = sym (rw g at turned)

    pub ends : {end : End} → next ≡ Stop end → with t.regs (ran end t.answer.pc (steps + 1) false) ≡ run_from cs (budget - steps) steps skipped pc s
    ends g = sym (rw g at turned)

pub begins : (cs : List ℕ) (budget start : ℕ) (s : Banks) → run_from cs (budget - 0) 0 false start s ≡ run_of cs budget 0 start s
unfolding run_of
begins cs budget start s =
    let all : budget - 0 ≡ budget = omega arith in
    ap (λ left. run_from cs left 0 false start s) all

-- The public calls.

-- a run of one step is that step
abbrev singly : After Ran → After Stepped
singly t = with t.regs (stepped (single t.answer.end t.answer.skipped) t.answer.pc)

one_of : (cs : List ℕ) (t : After Stepped) (k : Step) → t.answer.step ≡ k → singly (goes_on_at (next_of k) t 1 (run_from cs 0 1)) ≡ t
unfolding run_from
one_of cs t Continue h = rw (sym h)
one_of cs t Skipped h = rw (sym h)
one_of cs t Halted h = rw (sym h)
one_of cs t (Branch q) h = rw (sym h)

one_step : (cs : List ℕ) (pc : ℕ) (s : Banks) → singly (run_of cs 1 0 pc s) ≡ step_of cs pc s
unfolding run_of run_from
one_step cs pc s = one_of cs (step_of cs pc s) (step_of cs pc s).answer.step refl

pub steps_once : (cs : List ℕ) (pc : ℕ) (s : Banks) (m : After Ran) {k : Step} → m ≡ run_of cs 1 0 pc s → k ≡ single m.answer.end m.answer.skipped
    → with m.regs (stepped k m.answer.pc) ≡ step_of cs pc s
steps_once cs pc s m e h = rw h (ap singly e ∙ one_step cs pc s)

pub runs_plainly : (t m : After Ran) {k : Step} → m ≡ t → k ≡ plain m.answer.end → with m.regs (stepped k m.answer.pc) ≡ plainly t
runs_plainly t m e h = rw h (ap plainly e)

-- an answer, by what the tests of the input found
module _ {v w : Verdict} (s : Banks) (t : After Stepped) (e : v ≡ w) where
  pub done : (u : After Stepped) → v ≡ Ok tt → u ≡ t → with u.regs (Ok u.answer) ≡ answered w s t
  unfolding answered
  done u h d = rw (sym e ∙ h, d)

-- what a part of a list holds, from the k-th of its elements on
part_from : (s : List ℕ) (at n k : ℕ) → at + k + n ≤ length s → take n (drop (at + k) s) ≡ listed (λ i. get_or s (at + i) 0) k n
part_from s at zero k h = refl
part_from s at (suc n) k h =
    rw (part_cons s (at + k) n (omega arith), add_assoc at k 1, add-one k)
    (ap (λ l. get_or s (at + k) 0 ∷ l) (part_from s at n (suc k) (omega arith)))

-- the bytes of a command
pub twelve : (s : List ℕ) (at : ℕ) → at + 12 ≤ length s → take 12 (drop at s) ≡ fetched s at
twelve s at h =
    let e : at + 0 ≡ at = omega arith in
    let p : take 12 (drop (at + 0) s) ≡ listed (λ i. get_or s (at + i) 0) 0 12 = part_from s at 12 0 (omega arith) in
    rw e at p
