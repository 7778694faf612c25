-- How long the texts are. Assumes nothing.
use mathlib.Core.Path.{◌≡◌, refl, sym, ap, ◌∙◌}
use mathlib.Core.Bool.{Bool, true, false, cond}
use mathlib.Core.List.{List, [], ◌∷◌, ◌++◌, map}
use Prim.Native.Nat.{ℕ, zero, suc, ◌+◌, ◌/◌, ◌%◌, ◌≤◌, ◌<◌}
use Prim.Native.String.{String}
use native.Mathlib.Omega.{arith}
use lib.Dec.{T, eqb, leb, ltb, leb→le}
use lib.ListN.{length, take, drop, get_or, length-append}
use lib.Seq.{take_at}
use borrow.Author.Tests.{ltb-true, ltb-false, le-leb, lt-leb}
use Rattle.laws.specs.Over.{over_zero}
use Rattle.error.specs.declared.Refusal.TheVariants.{NoRoom}
use Rattle.text.specs.Rules.{bytes, numeral, Wrote}
use Rattle.text.specs.Laws.{few_digits, fitted}
use Rattle.register_model.specs.Rules.{class_of}
use Rattle.register_model.specs.Names.{names, name_of, reserved}
use Rattle.nav_names.specs.Rules.{mnemonics, mnemonic, name_text}
use Rattle.nav_names.proofs.Laws.{no_name, beyond}
use Rattle.nav_command.specs.declared.Operation.{Operation}
use Rattle.nav_command.specs.declared.Operation.TheVariants.{Branch, Compare, Set, System, Unknown}
use Rattle.nav_command.specs.declared.RegisterBank.TheVariants.{Gpr, Psr, PsrSecondary}
use Rattle.nav_command.specs.declared.Operand.{Operand}
use Rattle.nav_command.specs.declared.Operand.TheVariants.{Absent, Immediate, Register}
use Rattle.common.specs.Rules.{be4}
use Rattle.common.specs.Laws.{be4_below}
use Rattle.nav_command.specs.Rules.{byte_at, compares, branch_rows, set_rows, branch_of, compare_of, set_of, operation_of, group_of, operand_of, command_of, number_of}
use Rattle.nav_list.specs.declared.Line.{Line}
use Rattle.nav_list.specs.Rules.{unknown_text, head_text, immediate_text, general_text, tick_text, status_text, operand_text, second_text, operands_text, line_of, listing, list_of}
use Rattle.nav_list.specs.Numbers.{head_by, operand_by, second_by, operands_by, line_by, Lines}
use Rattle.nav_list.specs.Theorems.{LongestLine}
use Rattle.std.specs.Prelude.{Err, Ok}

-- texts of a list, each within a bound, which is computed

abbrev within : ℕ → List String → Bool
within n [] = true
within n (s ∷ texts) = cond (leb (length (bytes s)) n) (within n texts) false

split : (a b : Bool) → T (cond a b false) → T a × T b
split true b t = (tt, t)
split false b t = absurd t

all_within : (n : ℕ) (texts : List String) (i : ℕ) → T (within n texts) → length (bytes (get_or texts i "")) ≤ n
all_within n [] i t = omega arith
all_within n (s ∷ texts) zero t = leb→le (length (bytes s)) n (split (leb (length (bytes s)) n) (within n texts) t).0
all_within n (s ∷ texts) (suc i) t = all_within n texts i (split (leb (length (bytes s)) n) (within n texts) t).1

mnemonic_short : (n : ℕ) → length (mnemonic n) ≤ 18
unfolding mnemonic
mnemonic_short n = all_within 18 mnemonics n tt

name_short : (i : ℕ) → length (bytes (name_of i)) ≤ 28
unfolding name_of
name_short i = all_within 28 names i tt

bracket_short : (t : Bool) (s : List ℕ) → length s ≤ 28 → length (cond t [] (bytes "(" ++ (s ++ bytes ")"))) ≤ 30
bracket_short true s h = omega arith
bracket_short false s h = omega (arith, length-append s (bytes ")"))

name_text_short : (i : ℕ) → length (name_text i) ≤ 30
unfolding name_text
name_text_short i = bracket_short (reserved (class_of i)) (bytes (name_of i)) (name_short i)

tick_short : (t : Bool) → length (tick_text t) ≤ 1
tick_short true = omega arith
tick_short false = omega arith

-- an operand has at most 36 bytes: a name only where the index has two digits

status_length : (i n m : ℕ) (tick : Bool) → length (numeral 10 i) ≤ n → length (name_text i) ≤ m → length (status_text i tick) ≤ 4 + n + m
unfolding status_text
status_length i n m tick h g =
    omega (arith, length-append (numeral 10 i) (tick_text tick ++ name_text i), length-append (tick_text tick) (name_text i), tick_short tick)

status_short : (i : ℕ) (tick : Bool) → i < 65536 → length (status_text i tick) ≤ 36
status_short i tick h = go (ltb i 62) refl
  where
    go : (t : Bool) → ltb i 62 ≡ t → length (status_text i tick) ≤ 36
    go true e =
        let k : i < 62 = ltb-true i 62 e in
        status_length i 2 30 tick (few_digits 1 10 i (omega arith) (omega arith) (omega arith)) (name_text_short i)
    go false e =
        let k : 62 ≤ i = ltb-false i 62 e in
        let none : length (name_text i) ≤ 0 = rw (no_name i (beyond i k)) (omega arith) in
        let s : length (status_text i tick) ≤ 4 + 5 + 0 = status_length i 5 0 tick (few_digits 4 10 i (omega arith) (omega arith) (omega arith)) none in
        omega arith

immediate_short : (v : ℕ) → v < 0x1_0000_0000 → length (immediate_text v) ≤ 36
unfolding immediate_text
immediate_short v h = omega (arith, few_digits 7 16 v (omega arith) (omega arith) (omega arith))

general_short : (i : ℕ) → i < 65536 → length (general_text i) ≤ 36
unfolding general_text
general_short i h = omega (arith, few_digits 4 10 i (omega arith) (omega arith) (omega arith))

unknown_short : (sub code digits : ℕ) → length (numeral 10 sub) ≤ digits → code < 256 → length (unknown_text sub code) ≤ 26 + digits
unfolding unknown_text
unknown_short sub code digits h g =
    omega (
      arith,
      few_digits 1 16 code (omega arith) (omega arith) (omega arith),
      length-append (numeral 10 sub) (bytes ",sel=0x" ++ (numeral 16 code ++ bytes ")")),
      length-append (numeral 16 code) (bytes ")"),
    )

-- a line by numbers

head_by_is : (n sub code : ℕ) → length (head_by n sub code) ≤ 29
head_by_is zero sub code = unknown_short (sub % 256) (code % 256) 3 (few_digits 2 10 (sub % 256) (omega arith) (omega arith) (omega arith)) (omega arith)
head_by_is (suc n) sub code = omega (arith, mnemonic_short (suc n % 256))

operand_by_is : (kind value : ℕ) → value < 0x1_0000_0000 → length (operand_by kind value) ≤ 36
operand_by_is zero value h = omega arith
operand_by_is (suc zero) value h = immediate_short value h
operand_by_is (suc (suc zero)) value h = general_short (value % 65536) (omega arith)
operand_by_is (suc (suc (suc zero))) value h = status_short (value % 65536) false (omega arith)
operand_by_is (suc (suc (suc (suc kind)))) value h = status_short (value % 65536) true (omega arith)

second_by_is : (kind value : ℕ) → value < 0x1_0000_0000 → length (second_by kind value) ≤ 38
second_by_is zero value h = omega arith
second_by_is (suc kind) value h = omega (arith, operand_by_is (suc kind) value h)

operands_by_is : (kind value other second : ℕ) → value < 0x1_0000_0000 → second < 0x1_0000_0000 → length (operands_by kind value other second) ≤ 75
operands_by_is zero value other second h g = omega arith
operands_by_is (suc kind) value other second h g =
    omega (arith, operand_by_is (suc kind) value h, second_by_is other second g, length-append (operand_by (suc kind) value) (second_by other second))

pub line_short : {t : List ℕ} {l : Line} → Lines t l → length t ≤ 104
unfolding line_by
line_short {t} {l} h =
    let head : List ℕ = head_by l.head.number l.head.sub l.head.code in
    let operands : List ℕ = operands_by l.first.kind l.first.value l.second.kind l.second.value in
    let e : length t ≡ length head + length operands = ap length h.text ∙ length-append head operands in
    omega (arith, e, head_by_is l.head.number l.head.sub l.head.code, operands_by_is l.first.kind l.first.value l.second.kind l.second.value h.first h.second)

-- a decoded line: its sub-group has one digit

abbrev pub Small : Operation → Type 0
Small (Branch op) = Unit
Small (Compare op) = Unit
Small (Set op) = Unit
Small (System op) = Unit
Small (Unknown sub code) = (sub < 10) × (code < 256)

head_short : (op : Operation) → Small op → length (head_text op) ≤ 27
head_short (Branch op) s = omega (arith, mnemonic_short (number_of (Branch op)))
head_short (Compare op) s = omega (arith, mnemonic_short (number_of (Compare op)))
head_short (Set op) s = omega (arith, mnemonic_short (number_of (Set op)))
head_short (System op) s = omega (arith, mnemonic_short (number_of (System op)))
head_short (Unknown sub code) (h, g) = unknown_short sub code 1 (few_digits 0 10 sub (omega arith) (omega arith) (omega arith)) g

abbrev AllSmall : List Operation → Type 0
AllSmall [] = Unit
AllSmall (op ∷ row) = Small op × AllSmall row

small_in : (row : List Operation) (i : ℕ) (d : Operation) → AllSmall row → Small d → Small (get_or row i d)
small_in [] i d s t = t
small_in (op ∷ row) zero d (s, r) t = s
small_in (op ∷ row) (suc i) d (s, r) t = small_in row i d r t

abbrev RowsSmall : List (List Operation) → Type 0
RowsSmall [] = Unit
RowsSmall (row ∷ rows) = AllSmall row × RowsSmall rows

row_small : (rows : List (List Operation)) (sub : ℕ) → RowsSmall rows → AllSmall (get_or rows sub [])
row_small [] sub s = tt
row_small (row ∷ rows) zero (s, r) = s
row_small (row ∷ rows) (suc sub) (s, r) = row_small rows sub r

small_branch : (sub option : ℕ) → sub < 10 → option < 256 → Small (branch_of sub option)
unfolding branch_of
small_branch sub option h g = small_in (get_or branch_rows sub []) option (Unknown sub option) (row_small branch_rows sub (search tt)) (h, g)

small_compare : (sub code : ℕ) → sub < 10 → code < 256 → Small (compare_of sub code)
unfolding compare_of
small_compare sub code h g = small_in (Unknown sub code ∷ map Compare compares) code (Unknown sub code) ((h, g), search tt) (h, g)

small_set : (sub code : ℕ) → sub < 10 → code < 256 → Small (set_of sub code)
unfolding set_of
small_set sub code h g = small_in (Unknown sub code ∷ get_or set_rows sub []) code (Unknown sub code) ((h, g), row_small set_rows sub (search tt)) (h, g)

pub small_operation : (g sub option compare set : ℕ) → sub < 10 → option < 256 → compare < 256 → set < 256 → Small (operation_of (group_of g) sub option compare set)
small_operation zero sub option compare set h a b c = small_branch sub option h a
small_operation (suc zero) sub option compare set h a b c = small_compare sub compare h b
small_operation (suc (suc zero)) sub option compare set h a b c = small_set sub set h c
small_operation (suc (suc (suc g))) sub option compare set h a b c = (h, c)

abbrev Narrow : Operand → Type 0
Narrow Absent = Unit
Narrow (Immediate value) = value < 0x1_0000_0000
Narrow (Register bank i) = i < 65536

operand_short : (o : Operand) → Narrow o → length (operand_text o) ≤ 36
operand_short Absent n = omega arith
operand_short (Immediate value) n = immediate_short value n
operand_short (Register Gpr i) n = general_short i n
operand_short (Register Psr i) n = status_short i false n
operand_short (Register PsrSecondary i) n = status_short i true n

narrow : (there immediate : Bool) (w : ℕ) → w < 0x1_0000_0000 → Narrow (operand_of there immediate w)
unfolding operand_of
narrow false immediate w h = tt
narrow true true w h = h
narrow true false w h = omega arith

second_short : (o : Operand) → Narrow o → length (second_text o) ≤ 38
second_short Absent n = omega arith
second_short (Immediate value) n = omega (arith, operand_short (Immediate value) n)
second_short (Register bank i) n = omega (arith, operand_short (Register bank i) n)

operands_short : (o p : Operand) → Narrow o → Narrow p → length (operands_text o p) ≤ 75
operands_short Absent p n m = omega arith
operands_short (Immediate value) p n m = omega (arith, operand_short (Immediate value) n, second_short p m, length-append (operand_text (Immediate value)) (second_text p))
operands_short (Register bank i) p n m = omega (arith, operand_short (Register bank i) n, second_short p m, length-append (operand_text (Register bank i)) (second_text p))

pub longest : LongestLine
unfolding line_of command_of
longest b t =
    let s = t.small in
    let op : Operation = operation_of (group_of (byte_at b 0 / 8 % 4)) (byte_at b 0 % 8) (byte_at b 1 % 16) (byte_at b 2) (byte_at b 3) in
    let o : Operand = operand_of (leb 1 (byte_at b 0 / 32)) (eqb (byte_at b 1 / 128) 1) (be4 b 4) in
    let p : Operand = operand_of (leb 2 (byte_at b 0 / 32)) (eqb (byte_at b 1 / 64 % 2) 1) (be4 b 8) in
    let e : length (head_text op ++ operands_text o p) ≡ length (head_text op) + length (operands_text o p) = length-append (head_text op) (operands_text o p) in
    omega (
      arith,
      e,
      head_short op (small_operation (byte_at b 0 / 8 % 4) (byte_at b 0 % 8) (byte_at b 1 % 16) (byte_at b 2) (byte_at b 3) (omega arith) (omega arith) (s 2) (s 3)),
      operands_short o p
          (narrow (leb 1 (byte_at b 0 / 32)) (eqb (byte_at b 1 / 128) 1) (be4 b 4) (be4_below b 4 s))
          (narrow (leb 2 (byte_at b 0 / 32)) (eqb (byte_at b 1 / 64 % 2) 1) (be4 b 8) (be4_below b 8 s)),
    )

-- a line that was written into a local array stands there whole

pub made : {z m t : List ℕ} {l : Line} {r : ℕ} → Lines t l → Wrote z 0 (line_by l) m r → length z ≡ 112 → (r ≡ length t) × (take r m ≡ t)
made {z} {m} {t} {l} {r} h w e =
    let short : length t ≤ 104 = line_short h in
    let same : t ≡ line_by l = h.text in
    let n : length t ≡ length (line_by l) = ap length same in
    let f = fitted w (omega arith) in
    let q : r ≡ length t = omega (arith, f.0) in (
      q,
      ap (take r) (f.1 ∙ over_zero z (line_by l)) ∙ take_at (line_by l) (drop (length (line_by l)) z) r (omega arith) ∙ sym same,
    )

-- the ends of `list_line`

pub no_room : (l t : List ℕ) (at : ℕ) → length l < at + length t → listing (Err NoRoom) l ≡ list_of l at t
unfolding list_of
no_room l t at h = rw (lt-leb (at + length t) (length l) h)

pub room : (l m t : List ℕ) (at r : ℕ) → at + length t ≤ length l → Wrote l at t m r → listing (Ok r) m ≡ list_of l at t
unfolding list_of
room l m t at r h w =
    let f = fitted w h in
    rw (le-leb (at + length t) (length l) h, f.0, f.1)
