-- The derived `==` of commands answers as the rules' comparison by numbers: both say whether two commands are equal. Assumes nothing.
use Rattle.std.specs.Prelude.{◌≡◌, refl, Bool, true, false, ◌&&◌, ℕ, eqb}
use Rattle.std.proofs.Common.{rules, sym, ap, ◌∙◌, eqb-true}
use Rattle.std.proofs.lemmas.Bool.{false≢true}
use denote.Enum.Bare.{same_true}
use Rattle.laws.specs.Cases.{both}
use Rattle.nav_command.specs.declared.Operation.{Operation}
use Rattle.nav_command.specs.declared.Operation.TheVariants.{Branch, Compare, Set, System, Unknown}
use Rattle.nav_command.specs.declared.CommandGroup.{CommandGroup}
use Rattle.nav_command.specs.declared.Operand.{Operand}
use Rattle.nav_command.specs.declared.DecodedCommand.{DecodedCommand}
use Rattle.nav_command.specs.contracts.BranchOp as TB
use Rattle.nav_command.specs.contracts.CompareOp as TC
use Rattle.nav_command.specs.contracts.SetOp as TS
use Rattle.nav_command.specs.contracts.SystemOp as TY
use Rattle.nav_command.specs.contracts.OperationPartialEq.TheImpl as O
use Rattle.nav_command.specs.contracts.OperandPartialEq.TheImpl as P
use Rattle.nav_command.specs.contracts.CommandGroupPartialEq.TheImpl as C
use Rattle.nav_command.specs.contracts.DecodedCommandPartialEq.TheImpl as D
use Rattle.nav_command.specs.contracts.DecodedCommandEq.TheImpl.Laws.{laws-law}
use Rattle.std.specs.contracts.prelude.BoolPartialEq.TheImpl as Q
use Rattle.nav_encode.specs.Rules.{same}
use Rattle.nav_encode.proofs.Equal.{same_eq, same_refl}

operation : (a b : Operation) → (O.ghosts).eq a b ≡ true → a ≡ b
operation (Branch a) (Branch b) e = ap Branch (same_true TB.the_type (search rules) a b e)
operation (Compare a) (Compare b) e = ap Compare (same_true TC.the_type (search rules) a b e)
operation (Set a) (Set b) e = ap Set (same_true TS.the_type (search rules) a b e)
operation (System a) (System b) e = ap System (same_true TY.the_type (search rules) a b e)
operation (Unknown s a) (Unknown t b) e = search rules
operation _ _ e = absurd (false≢true e)

group : (a b : CommandGroup) → (C.ghosts).eq a b ≡ true → a ≡ b
group a b e = search rules

operand : (a b : Operand) → (P.ghosts).eq a b ≡ true → a ≡ b
operand a b e = search rules

abbrev whole : ℕ → CommandGroup → ℕ → Bool → Bool → Operation → Operand → Operand → DecodedCommand
whole n g s i j o p q =
    record { operand_count = n; group = g; sub_group = s; imm_op1 = i; imm_op2 = j; operation = o; operand1 = p; operand2 = q }

flag : (a b : Bool) → (Q.ghosts).eq a b ≡ true → a ≡ b
flag a b e = search rules

-- the derived `==` tells equal commands
tells : (a b : DecodedCommand) → (D.ghosts).eq a b ≡ true → a ≡ b
tells a b e =
    let h8 = (P.ghosts).eq a.operand2 b.operand2 in
    let h7 = (P.ghosts).eq a.operand1 b.operand1 && h8 in
    let h6 = (O.ghosts).eq a.operation b.operation && h7 in
    let h5 = (Q.ghosts).eq a.imm_op2 b.imm_op2 && h6 in
    let h4 = (Q.ghosts).eq a.imm_op1 b.imm_op1 && h5 in
    let h3 = eqb a.sub_group b.sub_group && h4 in
    let h2 = (C.ghosts).eq a.group b.group && h3 in
    let t1 = both (eqb a.operand_count b.operand_count) h2 e in
    let t2 = both ((C.ghosts).eq a.group b.group) h3 t1.1 in
    let t3 = both (eqb a.sub_group b.sub_group) h4 t2.1 in
    let t4 = both ((Q.ghosts).eq a.imm_op1 b.imm_op1) h5 t3.1 in
    let t5 = both ((Q.ghosts).eq a.imm_op2 b.imm_op2) h6 t4.1 in
    let t6 = both ((O.ghosts).eq a.operation b.operation) h7 t5.1 in
    let t7 = both ((P.ghosts).eq a.operand1 b.operand1) h8 t6.1 in
    let e1 = eqb-true a.operand_count b.operand_count t1.0 in
    let e2 = group a.group b.group t2.0 in
    let e3 = eqb-true a.sub_group b.sub_group t3.0 in
    let e4 = flag a.imm_op1 b.imm_op1 t4.0 in
    let e5 = flag a.imm_op2 b.imm_op2 t5.0 in
    let e6 = operation a.operation b.operation t6.0 in
    let e7 = operand a.operand1 b.operand1 t7.0 in
    let e8 = operand a.operand2 b.operand2 t7.1 in
    let all : whole a.operand_count a.group a.sub_group a.imm_op1 a.imm_op2 a.operation a.operand1 a.operand2 ≡ b = rw (e1, e2, e3, e4, e5, e6, e7, e8) in
    all

pub derived : (a b : DecodedCommand) → (D.ghosts).eq a b ≡ same a b
derived a b = go ((D.ghosts).eq a b) (same a b) refl refl
  where
    go : (p q : Bool) → (D.ghosts).eq a b ≡ p → same a b ≡ q → p ≡ q
    go true true e f = refl
    go false false e f = refl
    go true false e f = sym (same_refl b) ∙ ap (λ (x : DecodedCommand). same x b) (sym (tells a b e)) ∙ f
    go false true e f = sym e ∙ ap (λ (x : DecodedCommand). (D.ghosts).eq x b) (same_eq a b f) ∙ laws-law.refl b
