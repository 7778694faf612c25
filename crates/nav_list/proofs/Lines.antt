-- The numbers of a line show its text. Assumes nothing.
use mathlib.Core.Path.{◌≡◌, refl, sym, ap, ◌∙◌}
use mathlib.Core.Bool.{Bool, true, false}
use mathlib.Core.List.{List, ◌++◌}
use Prim.Native.Nat.{ℕ, ◌+◌, ◌/◌, ◌%◌, ◌≤◌, ◌<◌}
use native.Mathlib.Nat.{add-zero, mod-eq_of_lt}
use native.Mathlib.Omega.{arith}
use lib.Dec.{eqb, leb}
use lib.ListN.{take, drop}
use Rattle.laws.specs.Part.{part_at}
use Rattle.nav_names.specs.Rules.{mnemonic}
use Rattle.nav_command.specs.declared.RegisterBank.TheVariants.{Gpr, Psr, PsrSecondary}
use Rattle.nav_command.specs.declared.Operand.{Operand}
use Rattle.nav_command.specs.declared.Operand.TheVariants.{Absent, Immediate, Register}
use Rattle.nav_command.specs.declared.Operation.{Operation}
use Rattle.nav_command.specs.declared.Operation.TheVariants.{Branch, Compare, Set, System, Unknown}
use Rattle.nav_command.specs.declared.DecodedCommand.{DecodedCommand}
use Rattle.common.specs.Rules.{be4}
use Rattle.nav_command.specs.Rules.{byte_at, group_of, operation_of, operand_of, command_of, number_of}
use Rattle.nav_numbers.specs.declared.Pair.{Pair}
use Rattle.nav_numbers.specs.declared.Place.{Place}
use Rattle.nav_numbers.specs.Rules.{unknown_of, operand_pair}
use Rattle.nav_numbers.specs.Pieces.{place, place_of}
use Rattle.nav_numbers.specs.Theorems.{small}
use Rattle.nav_numbers.proofs.Laws.{branch_numbered, compare_numbered, set_numbered, system_numbered}
use Rattle.nav_numbers.proofs.Rows.{low_place}
use Rattle.nav_list.specs.declared.Line.{Line}
use Rattle.nav_list.specs.Rules.{head_text, second_text, operands_text, line_of, line_at}
use Rattle.nav_list.specs.Numbers.{head_by, second_by, operands_by, line_by, Lines}
use Rattle.nav_list.proofs.Laws.{head_named}
use Rattle.nav_list.proofs.Lengths.{Small, small_operation}

-- an operation

named_shows : (n : ℕ) → (0 < n) × (n < 48) → mnemonic n ≡ head_by n 0 0
named_shows n (p, h) =
    let m : n % 256 ≡ n = omega arith in
    sym (head_named n 0 0 (λ e. omega (arith, e)) ∙ ap mnemonic m)

head_shows : (op : Operation) → (unknown_of op).kind < 256 → (unknown_of op).value < 256 → head_text op ≡ head_by (number_of op) (unknown_of op).kind (unknown_of op).value
head_shows (Branch op) h g = named_shows _ (branch_numbered op)
head_shows (Compare op) h g = named_shows _ (compare_numbered op)
head_shows (Set op) h g = named_shows _ (set_numbered op)
head_shows (System op) h g = named_shows _ (system_numbered op)
head_shows (Unknown sub code) h g = rw (mod-eq_of_lt h, mod-eq_of_lt g)

-- both operands, whose register numbers are below 65,536

second_shows : (o : Operand) → small o → second_text o ≡ second_by (operand_pair o).kind (operand_pair o).value
second_shows Absent h = refl
second_shows (Immediate v) h = refl
second_shows (Register Gpr i) h = rw (mod-eq_of_lt h)
second_shows (Register Psr i) h = rw (mod-eq_of_lt h)
second_shows (Register PsrSecondary i) h = rw (mod-eq_of_lt h)

operands_show : (o p : Operand) → small o → small p → operands_text o p ≡ operands_by (operand_pair o).kind (operand_pair o).value (operand_pair p).kind (operand_pair p).value
operands_show Absent p h g = refl
operands_show (Immediate v) p h g = rw (second_shows p g)
operands_show (Register Gpr i) p h g = rw (mod-eq_of_lt h, second_shows p g)
operands_show (Register Psr i) p h g = rw (mod-eq_of_lt h, second_shows p g)
operands_show (Register PsrSecondary i) p h g = rw (mod-eq_of_lt h, second_shows p g)

-- a line of an operation and two operands whose fields are of their types

pub record Sized (op : Operation) (o p : Operand) : Type 0 where
  pub sub : (unknown_of op).kind < 256
  pub code : (unknown_of op).value < 256
  pub first : small o
  pub second : small p

abbrev line : Place → Pair → Pair → Line
line h a b = record { head = h; first = a; second = b }

shows : (op : Operation) (o p : Operand) → Sized op o p → head_text op ++ operands_text o p ≡ line_by (line (place_of op) (operand_pair o) (operand_pair p))
unfolding line_by
shows op o p s =
    rw (operands_show o p s.first s.second)
    (ap (λ (w : List ℕ). w ++ operands_by (operand_pair o).kind (operand_pair o).value (operand_pair p).kind (operand_pair p).value) (head_shows op s.sub s.code))

told : (op : Operation) (o p : Operand) (t : List ℕ) {h : Place} {a b : Pair} → t ≡ head_text op ++ operands_text o p → h ≡ place_of op → a ≡ operand_pair o → b ≡ operand_pair p → Sized op o p → a.value < 0x1_0000_0000 → b.value < 0x1_0000_0000 → Lines t (line h a b)
told op o p t e x y z s f g = record { text = e ∙ shows op o p s ∙ sym (same x y z); first = f; second = g }
  where
    same : {h h' : Place} {a a' b b' : Pair} → h ≡ h' → a ≡ a' → b ≡ b' → line_by (line h a b) ≡ line_by (line h' a' b')
    same x y z = cc

pub lines : (c : DecodedCommand) {n : ℕ} {u a b : Pair} → n ≡ number_of c.operation → u ≡ unknown_of c.operation → a ≡ operand_pair c.operand1 → b ≡ operand_pair c.operand2 → Sized c.operation c.operand1 c.operand2 → a.value < 0x1_0000_0000 → b.value < 0x1_0000_0000 → Lines (line_of c) (line (place n u.kind u.value) a b)
unfolding line_of
lines c n u a b s f g = told c.operation c.operand1 c.operand2 _ refl (same n u) a b s f g
  where
    same : {n n' : ℕ} {u u' : Pair} → n ≡ n' → u ≡ u' → place n u.kind u.value ≡ place n' u'.kind u'.value
    same e f = cc

-- the parts of a command in bytes are so

unknown_small : (op : Operation) → Small op → ((unknown_of op).kind < 256) × ((unknown_of op).value < 256)
unknown_small (Branch op) s = (omega arith, omega arith)
unknown_small (Compare op) s = (omega arith, omega arith)
unknown_small (Set op) s = (omega arith, omega arith)
unknown_small (System op) s = (omega arith, omega arith)
unknown_small (Unknown sub code) (h, g) = (omega arith, g)

operand_small : (there immediate : Bool) (w : ℕ) → small (operand_of there immediate w)
unfolding operand_of
operand_small false immediate w = tt
operand_small true true w = tt
operand_small true false w = omega arith

-- the twelve bytes at a place of a file

module _ (file : List ℕ) (from : ℕ) where
  abbrev part : List ℕ
  part = take 12 (drop from file)

  word_part : (i : ℕ) → i + 4 ≤ 12 → be4 part i ≡ be4 file (from + i)
  unfolding be4
  word_part i h =
      let e₁ : from + (i + 1) ≡ from + i + 1 = omega arith in
      let e₂ : from + (i + 2) ≡ from + i + 2 = omega arith in
      let e₃ : from + (i + 3) ≡ from + i + 3 = omega arith in
      rw (part_at file from 12 i (omega arith), part_at file from 12 (i + 1) (omega arith), part_at file from 12 (i + 2) (omega arith), part_at file from 12 (i + 3) (omega arith), e₁, e₂, e₃)

  byte₀ : byte_at part 0 ≡ byte_at file from
  byte₀ = part_at file from 12 0 (omega arith) ∙ ap (byte_at file) (add-zero from)

  -- the command's parts, read in the file
  abbrev b₀ : ℕ
  b₀ = byte_at file from

  abbrev b₁ : ℕ
  b₁ = byte_at file (from + 1)

  line_is : line_at file from ≡ head_text (operation_of (group_of (b₀ / 8 % 4)) (b₀ % 8) (b₁ % 16) (byte_at file (from + 2)) (byte_at file (from + 3))) ++ operands_text (operand_of (leb 1 (b₀ / 32)) (eqb (b₁ / 128) 1) (be4 file (from + 4))) (operand_of (leb 2 (b₀ / 32)) (eqb (b₁ / 64 % 2) 1) (be4 file (from + 8)))
  unfolding line_at line_of command_of
  line_is = rw (byte₀, part_at file from 12 1 (omega arith), part_at file from 12 2 (omega arith), part_at file from 12 3 (omega arith), word_part 4 (omega arith), word_part 8 (omega arith))

  pub lines_at : {h : Place} {a b : Pair} →
      h ≡ place_of (operation_of (group_of (b₀ % 32 / 8)) (b₀ % 32 % 8) (b₁ % 16) (byte_at file (from + 2)) (byte_at file (from + 3))) →
      a ≡ operand_pair (operand_of (leb 1 (b₀ / 32)) (eqb (b₁ / 128) 1) (be4 file (from + 4))) →
      b ≡ operand_pair (operand_of (leb 2 (b₀ / 32)) (eqb (b₁ / 64 % 2) 1) (be4 file (from + 8))) →
      byte_at file (from + 2) < 256 → byte_at file (from + 3) < 256 → a.value < 0x1_0000_0000 → b.value < 0x1_0000_0000 →
      Lines (line_at file from) (line h a b)
  lines_at x y z i j f g =
      let op : Operation = operation_of (group_of (b₀ / 8 % 4)) (b₀ % 8) (b₁ % 16) (byte_at file (from + 2)) (byte_at file (from + 3)) in
      let o : Operand = operand_of (leb 1 (b₀ / 32)) (eqb (b₁ / 128) 1) (be4 file (from + 4)) in
      let p : Operand = operand_of (leb 2 (b₀ / 32)) (eqb (b₁ / 64 % 2) 1) (be4 file (from + 8)) in
      let narrow = unknown_small op (small_operation (b₀ / 8 % 4) (b₀ % 8) (b₁ % 16) (byte_at file (from + 2)) (byte_at file (from + 3)) (omega arith) (omega arith) i j) in
      told op o p _ line_is (x ∙ low_place b₀ (b₁ % 16) (byte_at file (from + 2)) (byte_at file (from + 3))) y z
      (record {
        sub = narrow.0;
        code = narrow.1;
        first = operand_small (leb 1 (b₀ / 32)) (eqb (b₁ / 128) 1) (be4 file (from + 4));
        second = operand_small (leb 2 (b₀ / 32)) (eqb (b₁ / 64 % 2) 1) (be4 file (from + 8));
      })
      f g
