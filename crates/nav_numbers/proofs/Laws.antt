-- The sheet read by its numbers, and commands and their numbers there and back. Assumes nothing.
use mathlib.Core.Path.{◌≡◌, refl, sym, ap, ◌∙◌}
use mathlib.Core.Bool.{Bool, true, false, not}
use mathlib.Core.List.{List}
use Prim.Native.Nat.{ℕ, ◌-◌, ◌%◌, ◌≤◌, ◌<◌}
use native.Mathlib.Nat.{mod-eq_of_lt}
use native.Mathlib.Omega.{arith}
use lib.Dec.{eqb, ltb}
use lib.ListN.{length, get_or}
use lib.Seq.{ext_get_or}
use borrow.Author.Tests.{ltb-true, ltb-false, le-leb, lt-leb, eqb-true, eq-eqb}
use Rattle.laws.specs.Cases.{by_test}
use Rattle.laws.specs.Firsts.{all_tells, all_made}
use Rattle.nav_command.specs.declared.BranchOp.{BranchOp}
use Rattle.nav_command.specs.declared.BranchOp.TheVariants as B
use Rattle.nav_command.specs.declared.CompareOp.{CompareOp}
use Rattle.nav_command.specs.declared.CompareOp.TheVariants as C
use Rattle.nav_command.specs.declared.SetOp.{SetOp}
use Rattle.nav_command.specs.declared.SetOp.TheVariants as S
use Rattle.nav_command.specs.declared.SystemOp.{SystemOp}
use Rattle.nav_command.specs.declared.SystemOp.TheVariants as Y
use Rattle.nav_command.specs.declared.CommandGroup.{CommandGroup}
use Rattle.nav_command.specs.declared.CommandGroup.TheVariants as G
use Rattle.nav_command.specs.declared.DecodedCommand.{DecodedCommand}
use Rattle.nav_command.specs.declared.Operand.{Operand}
use Rattle.nav_command.specs.declared.Operand.TheVariants.{Absent, Immediate, Register}
use Rattle.nav_command.specs.declared.Operation.{Operation}
use Rattle.nav_command.specs.declared.Operation.TheVariants.{Branch, Compare, Set, System, Unknown}
use Rattle.nav_command.specs.declared.RegisterBank.TheVariants.{Gpr, Psr, PsrSecondary}
use Rattle.nav_command.specs.Rules.{compares, sets, systems, number_of}
use Rattle.nav_numbers.proofs.Named.{named, named_1, unnamed}
use Rattle.nav_numbers.specs.Rules.{flag_number, unknown_of, group_pair, operand_pair, command_numbers, group_named, operand_named, branches, sheet_named, operation_named, command_named, same_at, is_command}
use Rattle.nav_numbers.specs.Theorems.{small, Typed, Named}

-- ---- the sheet, part by part

module _ (n : ℕ) (other : Operation) where
  pub sheet_none : n ≡ 0 → other ≡ sheet_named n other
  unfolding sheet_named
  sheet_none h = rw h

  pub sheet_branch : (a : BranchOp) → 0 < n → n ≤ 14 → Branch (get_or branches (n - 1) a) ≡ sheet_named n other
  unfolding sheet_named
  sheet_branch a p h = rw (le-leb n 14 h) (named_1 Branch branches n a other p h)

  pub sheet_compare : (a : CompareOp) → 14 < n → n ≤ 21 → Compare (get_or compares (n - 15) a) ≡ sheet_named n other
  unfolding sheet_named
  sheet_compare a l h = let b : n - 15 < 7 = omega arith in rw (lt-leb n 14 l, le-leb n 21 h) (named Compare compares (n - 15) a other b)

  pub sheet_set : (a : SetOp) → 21 < n → n ≤ 36 → Set (get_or sets (n - 22) a) ≡ sheet_named n other
  unfolding sheet_named
  sheet_set a l h =
      let b : n - 22 < 15 = omega arith in
      let k : 14 < n = omega arith in
      rw (lt-leb n 14 k, lt-leb n 21 l, le-leb n 36 h) (named Set sets (n - 22) a other b)

  pub sheet_system : (a : SystemOp) → 36 < n → n ≤ 47 → System (get_or systems (n - 37) a) ≡ sheet_named n other
  unfolding sheet_named
  sheet_system a l h =
      let b : n - 37 < 11 = omega arith in
      let j : 14 < n = omega arith in
      let k : 21 < n = omega arith in
      rw (lt-leb n 14 j, lt-leb n 21 k, lt-leb n 36 l) (named System systems (n - 37) a other b)

  pub sheet_past : 47 < n → other ≡ sheet_named n other
  unfolding sheet_named
  sheet_past l =
      let b : 11 ≤ n - 37 = omega arith in
      let i : 14 < n = omega arith in
      let j : 21 < n = omega arith in
      let k : 36 < n = omega arith in
      rw (lt-leb n 14 i, lt-leb n 21 j, lt-leb n 36 k) (unnamed System systems (n - 37) other b)

-- ---- each field's numbers name it

branch_back : (op : BranchOp) (other : Operation) → sheet_named (number_of (Branch op)) other ≡ Branch op
unfolding sheet_named
branch_back B.Nop other = refl
branch_back B.GoTo other = refl
branch_back B.Break other = refl
branch_back B.JumpObject other = refl
branch_back B.JumpTitle other = refl
branch_back B.CallObject other = refl
branch_back B.CallTitle other = refl
branch_back B.Resume other = refl
branch_back B.PlayPL other = refl
branch_back B.PlayPLatPlayItem other = refl
branch_back B.PlayPLatMark other = refl
branch_back B.TerminatePL other = refl
branch_back B.LinkPI other = refl
branch_back B.LinkMK other = refl

compare_back : (op : CompareOp) (other : Operation) → sheet_named (number_of (Compare op)) other ≡ Compare op
unfolding sheet_named
compare_back C.Bc other = refl
compare_back C.Eq other = refl
compare_back C.Ne other = refl
compare_back C.Ge other = refl
compare_back C.Gt other = refl
compare_back C.Le other = refl
compare_back C.Lt other = refl

set_back : (op : SetOp) (other : Operation) → sheet_named (number_of (Set op)) other ≡ Set op
unfolding sheet_named
set_back S.Move other = refl
set_back S.Swap other = refl
set_back S.Add other = refl
set_back S.Sub other = refl
set_back S.Mul other = refl
set_back S.Div other = refl
set_back S.Mod other = refl
set_back S.Rnd other = refl
set_back S.And other = refl
set_back S.Or other = refl
set_back S.Xor other = refl
set_back S.BitSet other = refl
set_back S.BitClear other = refl
set_back S.ShiftLeft other = refl
set_back S.ShiftRight other = refl

system_back : (op : SystemOp) (other : Operation) → sheet_named (number_of (System op)) other ≡ System op
unfolding sheet_named
system_back Y.SetStream other = refl
system_back Y.SetNvTimer other = refl
system_back Y.SetButtonPage other = refl
system_back Y.EnableButton other = refl
system_back Y.DisableButton other = refl
system_back Y.SetSecondaryStream other = refl
system_back Y.PopUpOff other = refl
system_back Y.StillOn other = refl
system_back Y.StillOff other = refl
system_back Y.SetOutputMode other = refl
system_back Y.SetStreamSS other = refl

-- an operation with a name has a number from 1 to 47, since no other number names it

named_number : (n : ℕ) (op : Operation) → sheet_named n (Unknown 0 0) ≡ op → (op ≡ Unknown 0 0 → ⊥) → (0 < n) × (n < 48)
named_number n op e ne = (
  by_test (ltb 0 n) (ltb-true 0 n) (λ t. absurd (ne (sym e ∙ sym (sheet_none n (Unknown 0 0) (omega (arith, ltb-false 0 n t)))))),
  by_test (ltb n 48) (ltb-true n 48) (λ t. absurd (ne (sym e ∙ sym (sheet_past n (Unknown 0 0) (omega (arith, ltb-false n 48 t)))))),
)

pub branch_numbered : (op : BranchOp) → (0 < number_of (Branch op)) × (number_of (Branch op) < 48)
branch_numbered op = named_number _ (Branch op) (branch_back op (Unknown 0 0)) (λ e. let z : ◌≡◌ {A = ℕ} 0 1 = cc in omega arith)

pub compare_numbered : (op : CompareOp) → (0 < number_of (Compare op)) × (number_of (Compare op) < 48)
compare_numbered op = named_number _ (Compare op) (compare_back op (Unknown 0 0)) (λ e. let z : ◌≡◌ {A = ℕ} 0 1 = cc in omega arith)

pub set_numbered : (op : SetOp) → (0 < number_of (Set op)) × (number_of (Set op) < 48)
set_numbered op = named_number _ (Set op) (set_back op (Unknown 0 0)) (λ e. let z : ◌≡◌ {A = ℕ} 0 1 = cc in omega arith)

pub system_numbered : (op : SystemOp) → (0 < number_of (System op)) × (number_of (System op) < 48)
system_numbered op = named_number _ (System op) (system_back op (Unknown 0 0)) (λ e. let z : ◌≡◌ {A = ℕ} 0 1 = cc in omega arith)

unknown_back : (other : Operation) → sheet_named 0 other ≡ other
unfolding sheet_named
unknown_back other = refl

operation_back : (op : Operation) → (unknown_of op).kind < 256 → (unknown_of op).value < 256 → operation_named (number_of op) (unknown_of op).kind (unknown_of op).value ≡ op
operation_back (Branch op) s c = branch_back op _
operation_back (Compare op) s c = compare_back op _
operation_back (Set op) s c = set_back op _
operation_back (System op) s c = system_back op _
operation_back (Unknown sub code) s c = unknown_back (Unknown (sub % 256) (code % 256)) ∙ rw (mod-eq_of_lt s, mod-eq_of_lt c)

group_back : (g : CommandGroup) → (group_pair g).value < 256 → group_named (group_pair g).kind (group_pair g).value ≡ g
unfolding group_named
group_back G.Branch h = refl
group_back G.Compare h = refl
group_back G.Set h = refl
group_back (G.Reserved bits) h = ap G.Reserved (mod-eq_of_lt h)

operand_back : (a : Operand) → small a → operand_named (operand_pair a).kind (operand_pair a).value ≡ a
unfolding operand_named
operand_back Absent h = refl
operand_back (Immediate v) h = refl
operand_back (Register Gpr i) h = ap (Register Gpr) (mod-eq_of_lt h)
operand_back (Register Psr i) h = ap (Register Psr) (mod-eq_of_lt h)
operand_back (Register PsrSecondary i) h = ap (Register PsrSecondary) (mod-eq_of_lt h)

flag_back : (b : Bool) → not (eqb (flag_number b) 0) ≡ b
flag_back true = refl
flag_back false = refl

-- ---- commands there and back

abbrev whole : ℕ → CommandGroup → ℕ → Bool → Bool → Operation → Operand → Operand → DecodedCommand
whole n g s i j o p q =
    record { operand_count = n; group = g; sub_group = s; imm_op1 = i; imm_op2 = j; operation = o; operand1 = p; operand2 = q }

command_back : (c : DecodedCommand) → Typed c → command_named (command_numbers c) ≡ c
unfolding command_named command_numbers
command_back c t =
    let e1 : c.operand_count % 256 ≡ c.operand_count = mod-eq_of_lt t.count in
    let e2 = group_back c.group t.group in
    let e3 : c.sub_group % 256 ≡ c.sub_group = mod-eq_of_lt t.sub in
    let e4 = flag_back c.imm_op1 in
    let e5 = flag_back c.imm_op2 in
    let e6 = operation_back c.operation t.unknown.0 t.unknown.1 in
    let e7 = operand_back c.operand1 t.first in
    let e8 = operand_back c.operand2 t.second in
    made e1 e2 e3 e4 e5 e6 e7 e8
  where
    made : {n n' : ℕ} {g g' : CommandGroup} {s s' : ℕ} {i i' j j' : Bool} {o o' : Operation} {p p' q q' : Operand} → n ≡ n' → g ≡ g' → s ≡ s' → i ≡ i' → j ≡ j' → o ≡ o' → p ≡ p' → q ≡ q' → whole n g s i j o p q ≡ whole n' g' s' i' j' o' p' q'
    made e1 e2 e3 e4 e5 e6 e7 e8 = cc

pub command_named_back : (c : DecodedCommand) → Typed c → Named c
unfolding is_command
command_named_back c t =
    let e = command_back c t in
    record { back = e; are = all_made (same_at (command_numbers (command_named (command_numbers c))) (command_numbers c)) 13 (λ k h. eq-eqb _ _ (ap (λ (d : DecodedCommand). get_or (command_numbers d) k 0) e)) }

numbers_thirteen : (c : DecodedCommand) → length (command_numbers c) ≡ 13
unfolding command_numbers
numbers_thirteen c = refl

pub numbers_are : (l : List ℕ) → length l ≡ 13 → is_command l ≡ true → command_numbers (command_named l) ≡ l
unfolding is_command
numbers_are l long e =
    let n = numbers_thirteen (command_named l) in
    ext_get_or 0 (command_numbers (command_named l)) l (n ∙ sym long) (λ k h. eqb-true _ _ (all_tells (same_at (command_numbers (command_named l)) l) 13 k e (omega (arith, n))))
