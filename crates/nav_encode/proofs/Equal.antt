-- Two commands whose fields are the same as numbers are equal: a value of each enum is got back from its key. Assumes nothing.
use mathlib.Core.Path.{◌≡◌, ◌∙◌, refl, sym, ap}
use mathlib.Core.Bool.{Bool, true, false, ◌&&◌}
use mathlib.Core.List.{[], ◌∷◌}
use Prim.Native.Nat.{ℕ}
use lib.Dec.{eqb}
use lib.ListN.{get_or}
use borrow.Author.Tests.{eqb-true, eq-eqb}
use Rattle.nav_command.specs.declared.BranchOp.TheVariants as B
use Rattle.nav_command.specs.declared.CompareOp.TheVariants as C
use Rattle.nav_command.specs.declared.SetOp.TheVariants as S
use Rattle.nav_command.specs.declared.SystemOp.TheVariants as Y
use Rattle.nav_command.specs.declared.Operation.{Operation}
use Rattle.nav_command.specs.declared.Operation.TheVariants.{Branch, Compare, Set, System, Unknown}
use Rattle.nav_command.specs.declared.CommandGroup.{CommandGroup}
use Rattle.nav_command.specs.declared.CommandGroup.TheVariants as G
use Rattle.nav_command.specs.declared.RegisterBank.TheVariants.{Gpr, Psr, PsrSecondary}
use Rattle.nav_command.specs.declared.Operand.{Operand}
use Rattle.nav_command.specs.declared.Operand.TheVariants.{Absent, Immediate, Register}
use Rattle.nav_command.specs.declared.DecodedCommand.{DecodedCommand}
use Rattle.nav_command.specs.Laws.{sheet}
use Rattle.nav_encode.specs.Rules.{bit_of, Key, key, group_key, operation_key, operand_key, same_key, same_flags, same}

left : (a b : Bool) → a && b ≡ true → a ≡ true
left true b e = refl
left false b e = e

right : (a b : Bool) → a && b ≡ true → b ≡ true
right true b e = e
right false b e = cc

key_eq : (a b : Key) → same_key a b ≡ true → a ≡ b
key_eq a b e =
    let kv : eqb a.kind b.kind && eqb a.value b.value ≡ true = left _ (eqb a.more b.more) e in
    let k : a.kind ≡ b.kind = eqb-true _ _ (left (eqb a.kind b.kind) _ kv) in
    let v : a.value ≡ b.value = eqb-true _ _ (right (eqb a.kind b.kind) _ kv) in
    let m : a.more ≡ b.more = eqb-true _ _ (right (eqb a.kind b.kind && eqb a.value b.value) _ e) in
    let t : key a.kind a.value a.more ≡ key b.kind b.value b.more = rw (k, v, m) in
    t

key_refl : (a : Key) → same_key a a ≡ true
key_refl a = rw (eq-eqb a.kind a.kind refl, eq-eqb a.value a.value refl, eq-eqb a.more a.more refl)

-- back from a key

operation_of_number : Key → Operation
operation_of_number k = get_or (Unknown k.value k.more ∷ sheet) k.kind (Unknown 0 0)

operation_back : (op : Operation) → operation_of_number (operation_key op) ≡ op
unfolding operation_of_number sheet
operation_back (Branch B.Nop) = refl
operation_back (Branch B.GoTo) = refl
operation_back (Branch B.Break) = refl
operation_back (Branch B.JumpObject) = refl
operation_back (Branch B.JumpTitle) = refl
operation_back (Branch B.CallObject) = refl
operation_back (Branch B.CallTitle) = refl
operation_back (Branch B.Resume) = refl
operation_back (Branch B.PlayPL) = refl
operation_back (Branch B.PlayPLatPlayItem) = refl
operation_back (Branch B.PlayPLatMark) = refl
operation_back (Branch B.TerminatePL) = refl
operation_back (Branch B.LinkPI) = refl
operation_back (Branch B.LinkMK) = refl
operation_back (Compare C.Bc) = refl
operation_back (Compare C.Eq) = refl
operation_back (Compare C.Ne) = refl
operation_back (Compare C.Ge) = refl
operation_back (Compare C.Gt) = refl
operation_back (Compare C.Le) = refl
operation_back (Compare C.Lt) = refl
operation_back (Set S.Move) = refl
operation_back (Set S.Swap) = refl
operation_back (Set S.Add) = refl
operation_back (Set S.Sub) = refl
operation_back (Set S.Mul) = refl
operation_back (Set S.Div) = refl
operation_back (Set S.Mod) = refl
operation_back (Set S.Rnd) = refl
operation_back (Set S.And) = refl
operation_back (Set S.Or) = refl
operation_back (Set S.Xor) = refl
operation_back (Set S.BitSet) = refl
operation_back (Set S.BitClear) = refl
operation_back (Set S.ShiftLeft) = refl
operation_back (Set S.ShiftRight) = refl
operation_back (System Y.SetStream) = refl
operation_back (System Y.SetNvTimer) = refl
operation_back (System Y.SetButtonPage) = refl
operation_back (System Y.EnableButton) = refl
operation_back (System Y.DisableButton) = refl
operation_back (System Y.SetSecondaryStream) = refl
operation_back (System Y.PopUpOff) = refl
operation_back (System Y.StillOn) = refl
operation_back (System Y.StillOff) = refl
operation_back (System Y.SetOutputMode) = refl
operation_back (System Y.SetStreamSS) = refl
operation_back (Unknown sub code) = refl

group_of : Key → CommandGroup
group_of k = get_or (G.Branch ∷ G.Compare ∷ G.Set ∷ []) k.kind (G.Reserved k.value)

group_back : (g : CommandGroup) → group_of (group_key g) ≡ g
unfolding group_of
group_back G.Branch = refl
group_back G.Compare = refl
group_back G.Set = refl
group_back (G.Reserved g) = refl

operand_of_number : Key → Operand
operand_of_number k =
    get_or (Absent ∷ Immediate k.value ∷ []) k.kind (Register (get_or (Gpr ∷ Gpr ∷ Psr ∷ []) k.more PsrSecondary) k.value)

operand_back : (o : Operand) → operand_of_number (operand_key o) ≡ o
unfolding operand_of_number
operand_back Absent = refl
operand_back (Immediate v) = refl
operand_back (Register Gpr i) = refl
operand_back (Register Psr i) = refl
operand_back (Register PsrSecondary i) = refl

bit_back : (b : Bool) → eqb (bit_of b) 1 ≡ b
bit_back true = refl
bit_back false = refl

operation_eq : (a b : Operation) → same_key (operation_key a) (operation_key b) ≡ true → a ≡ b
operation_eq a b e = sym (operation_back a) ∙ ap operation_of_number (key_eq (operation_key a) (operation_key b) e) ∙ operation_back b

group_eq : (a b : CommandGroup) → same_key (group_key a) (group_key b) ≡ true → a ≡ b
group_eq a b e = sym (group_back a) ∙ ap group_of (key_eq (group_key a) (group_key b) e) ∙ group_back b

operand_eq : (a b : Operand) → same_key (operand_key a) (operand_key b) ≡ true → a ≡ b
operand_eq a b e = sym (operand_back a) ∙ ap operand_of_number (key_eq (operand_key a) (operand_key b) e) ∙ operand_back b

bit_eq : (a b : Bool) → eqb (bit_of a) (bit_of b) ≡ true → a ≡ b
bit_eq a b e = sym (bit_back a) ∙ ap (λ (n : ℕ). eqb n 1) (eqb-true (bit_of a) (bit_of b) e) ∙ bit_back b

abbrev whole : ℕ → CommandGroup → ℕ → Bool → Bool → Operation → Operand → Operand → DecodedCommand
whole n g s i j o p q =
    record { operand_count = n; group = g; sub_group = s; imm_op1 = i; imm_op2 = j; operation = o; operand1 = p; operand2 = q }

-- seven tests that are all true
module _ (a b c d e f g : Bool) (all : a && b && c && d && e && f && g ≡ true) where
  is_g : g ≡ true
  is_g = right (a && b && c && d && e && f) g all

  to_f : a && b && c && d && e && f ≡ true
  to_f = left (a && b && c && d && e && f) g all

  to_e : a && b && c && d && e ≡ true
  to_e = left (a && b && c && d && e) f to_f

  to_d : a && b && c && d ≡ true
  to_d = left (a && b && c && d) e to_e

  to_c : a && b && c ≡ true
  to_c = left (a && b && c) d to_d

  all_true : (a ≡ true) × (b ≡ true) × (c ≡ true) × (d ≡ true) × (e ≡ true) × (f ≡ true) × (g ≡ true)
  all_true = (
    left a b (left (a && b) c to_c),
    right a b (left (a && b) c to_c),
    right (a && b) c to_c,
    right (a && b && c) d to_d,
    right (a && b && c && d) e to_e,
    right (a && b && c && d && e) f to_f,
    is_g,
  )

pub same_eq : (c d : DecodedCommand) → same c d ≡ true → c ≡ d
unfolding same
same_eq c d e =
    let t = all_true (eqb c.operand_count d.operand_count) (eqb c.sub_group d.sub_group) (same_flags c d) (same_key (group_key c.group) (group_key d.group)) (same_key (operation_key c.operation) (operation_key d.operation)) (same_key (operand_key c.operand1) (operand_key d.operand1)) (same_key (operand_key c.operand2) (operand_key d.operand2)) e in
    let e1 : c.operand_count ≡ d.operand_count = eqb-true _ _ t.0 in
    let e2 : c.sub_group ≡ d.sub_group = eqb-true _ _ t.1 in
    let e3 : c.imm_op1 ≡ d.imm_op1 = bit_eq _ _ (left (eqb (bit_of c.imm_op1) (bit_of d.imm_op1)) _ t.2) in
    let e4 : c.imm_op2 ≡ d.imm_op2 = bit_eq _ _ (right (eqb (bit_of c.imm_op1) (bit_of d.imm_op1)) _ t.2) in
    let e5 : c.group ≡ d.group = group_eq c.group d.group t.3 in
    let e6 : c.operation ≡ d.operation = operation_eq c.operation d.operation t.4 in
    let e7 : c.operand1 ≡ d.operand1 = operand_eq c.operand1 d.operand1 t.5 in
    let e8 : c.operand2 ≡ d.operand2 = operand_eq c.operand2 d.operand2 t.6 in
    let t : whole c.operand_count c.group c.sub_group c.imm_op1 c.imm_op2 c.operation c.operand1 c.operand2 ≡ d = rw (e1, e2, e3, e4, e5, e6, e7, e8) in
    t

pub same_refl : (c : DecodedCommand) → same c c ≡ true
unfolding same
same_refl c =
    rw (
      eq-eqb c.operand_count c.operand_count refl,
      eq-eqb c.sub_group c.sub_group refl,
      eq-eqb (bit_of c.imm_op1) (bit_of c.imm_op1) refl,
      eq-eqb (bit_of c.imm_op2) (bit_of c.imm_op2) refl,
      key_refl (group_key c.group),
      key_refl (operation_key c.operation),
      key_refl (operand_key c.operand1),
      key_refl (operand_key c.operand2),
    )
