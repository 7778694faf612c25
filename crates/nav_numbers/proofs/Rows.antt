-- A command's numbers, part by part: the place of a code in its row of the sheet, the group, the operands. Assumes nothing.
use mathlib.Core.Path.{◌≡◌, refl, sym, ap, ◌∙◌}
use mathlib.Core.Bool.{Bool, true, false, cond}
use mathlib.Core.List.{List, [], ◌∷◌, map}
use Prim.Native.Nat.{ℕ, zero, suc, ◌+◌, ◌/◌, ◌%◌, ◌≤◌, ◌<◌}
use native.Mathlib.Omega.{arith}
use lib.Dec.{eqb, leb, ltb}
use lib.ListN.{length, get_or}
use borrow.Author.Tests.{ltb-true, ltb-false, le-ltb, ne_eqb}
use Rattle.laws.specs.Cases.{by_test}
use Rattle.laws.specs.Table.{listed, at as listed_at}
use Rattle.nav_command.specs.declared.CommandGroup.TheVariants.{Reserved}
use Rattle.nav_command.specs.declared.Operation.{Operation}
use Rattle.nav_command.specs.declared.Operation.TheVariants.{Compare, Unknown}
use Rattle.common.specs.Rules.{be4}
use Rattle.nav_command.specs.Rules.{compares, branch_rows, set_rows, branch_of, compare_of, set_of, groups, group_of, operation_of, operand_of, byte_at, count_of, group_bits, sub_of, immediate1, immediate2, command_of}
use Rattle.nav_command.proofs.Laws.{past}
use Rattle.nav_numbers.specs.declared.Pair.{Pair}
use Rattle.nav_numbers.specs.declared.Place.{Place}
use Rattle.nav_numbers.specs.declared.Row.{Row}
use Rattle.nav_numbers.specs.Rules.{pair, group_pair, operand_pair, flag_number, command_numbers}
use Rattle.nav_numbers.specs.Pieces.{place, place_of, row_in, row_of, Numbered, row_place}

map_at : {A B : Type 0} (f : A → B) (row : List A) (k : ℕ) (d : A) → get_or (map f row) k (f d) ≡ f (get_or row k d)
map_at f [] k d = refl
map_at f (x ∷ row) zero d = refl
map_at f (x ∷ row) (suc k) d = map_at f row k d

module _ (ops : List Operation) (row : Row) (n : Numbered ops row) where
  at_place : (k sub code : ℕ) → row_place k row.count row.first sub code ≡ place_of (get_or ops k (Unknown sub code))
  unfolding row_place
  at_place k sub code =
      by_test (ltb k row.count)
      (λ t. rw t (sym (listed_at (λ j. place (row.first + j) 0 0) (place 0 sub code) row.count n.places k (ltb-true k row.count t)) ∙ map_at place_of ops k (Unknown sub code)))
      (λ t. rw t (ap place_of (past ops k (Unknown sub code) (omega (arith, n.long, ltb-false k row.count t)))))

  -- codes that count from 1
  at_code : (sub code : ℕ) → code < 256 → row_place ((code + 255) % 256) row.count row.first sub code ≡ place_of (get_or (Unknown sub code ∷ ops) code (Unknown sub code))
  unfolding row_place
  at_code sub zero h = rw (le-ltb 255 row.count (omega (arith, n.fits)))
  at_code sub (suc k) h = let back : (suc k + 255) % 256 ≡ k = omega arith in rw back (at_place k sub (suc k))

reserved : (bits : ℕ) → 3 ≤ bits → group_of bits ≡ Reserved bits
reserved bits h = sym (past groups bits (Reserved bits) h)

module _ (sub option compare set : ℕ) (row : Row) (h : compare < 256) (g : set < 256) where
  abbrev Placed : ℕ → Type 0
  Placed bits =
      row_place (cond (eqb bits 0) option (cond (eqb bits 1) ((compare + 255) % 256) ((set + 255) % 256))) row.count row.first sub
      (cond (eqb bits 0) option (cond (eqb bits 1) compare set))
      ≡ place_of (operation_of (group_of bits) sub option compare set)

  reserved_place : (bits : ℕ) → 3 ≤ bits → Numbered (row_in (group_of bits) sub) row → Placed bits
  reserved_place bits r n =
      rw (ne_eqb bits 0 (λ q. omega arith), ne_eqb bits 1 (λ q. omega arith), reserved bits r)
      (at_place [] row (rw (reserved bits r) at n) ((set + 255) % 256) sub set)

  pub operation_place : (bits : ℕ) → Numbered (row_in (group_of bits) sub) row → Placed bits
  unfolding branch_of compare_of set_of
  operation_place zero n = at_place (get_or branch_rows sub []) row n option sub option
  operation_place (suc zero) n = at_code (map Compare compares) row n sub compare h
  operation_place (suc (suc zero)) n = at_code (get_or set_rows sub []) row n sub set g
  operation_place (suc (suc (suc b))) n = reserved_place (suc (suc (suc b))) (omega arith) n

-- a row of the sheet by the bits that name it
pub row_named : (k count first : ℕ) {low : ℕ} {row : Row} → low ≡ k → row ≡ row_of count first → length (row_in (group_of (k / 8)) (k % 8)) ≡ count → map place_of (row_in (group_of (k / 8)) (k % 8)) ≡ listed (λ j. place (first + j) 0 0) 0 count → first + count ≤ 48 → Numbered (row_in (group_of (low / 8)) (low % 8)) row
row_named k count first e r long places fits = rw (e, r) (record { long = long; places = places; fits = fits })

-- none of the first numbers, as the last arm of a match knows it
abbrev NoneOf : ℕ → ℕ → Type 0
NoneOf zero n = Unit
NoneOf (suc k) n = NoneOf k n × (n ≡ k → ⊥)

beyond : (k n : ℕ) → NoneOf k n → k ≤ n
beyond zero n r = omega arith
beyond (suc k) n (r, ne) = let h : k ≤ n = beyond k n r in omega (arith, ne)

pub row_beyond : (low : ℕ) {row : Row} → NoneOf 32 low → row ≡ row_of 0 0 → Numbered (row_in (group_of (low / 8)) (low % 8)) row
row_beyond low none r =
    let h : 3 ≤ low / 8 = omega (arith, beyond 32 low none) in
    rw (reserved (low / 8) h, r) (record { long = refl; places = refl; fits = omega arith })

-- groups and operands, kind and value apart

pub group_pair_told : (bits : ℕ) → pair (cond (ltb bits 3) bits 3) (cond (ltb bits 3) 0 bits) ≡ group_pair (group_of bits)
group_pair_told zero = refl
group_pair_told (suc zero) = refl
group_pair_told (suc (suc zero)) = refl
group_pair_told (suc (suc (suc b))) = above (suc (suc (suc b))) (omega arith)
  where
    above : (bits : ℕ) → 3 ≤ bits → pair (cond (ltb bits 3) bits 3) (cond (ltb bits 3) 0 bits) ≡ group_pair (group_of bits)
    above bits h = rw (le-ltb bits 3 h, reserved bits h)

pub operand_kind : (there immediate : Bool) (w : ℕ) → cond there (cond immediate 1 (cond (ltb w 0x8000_0000) 2 (cond (ltb w 0xC000_0000) 3 4))) 0 ≡ (operand_pair (operand_of there immediate w)).kind
unfolding operand_of
operand_kind false immediate w = refl
operand_kind true true w = refl
operand_kind true false w =
    by_test (ltb w 0x8000_0000) (λ t. rw t) (λ t. rw t (by_test (ltb w 0xC000_0000) (λ u. rw u) (λ u. rw u)))

-- an absent operand's word is no matter
given_kind : (there immediate : Bool) (w : ℕ) → (operand_pair (operand_of there immediate (cond there w 0))).kind ≡ (operand_pair (operand_of there immediate w)).kind
unfolding operand_of
given_kind false immediate w = refl
given_kind true immediate w = refl

given_value : (there immediate : Bool) (w : ℕ) → cond immediate (cond there w 0) (cond there w 0 % 4096) ≡ (operand_pair (operand_of there immediate w)).value
unfolding operand_of
given_value false true w = refl
given_value false false w = refl
given_value true true w = refl
given_value true false w = refl

pub operand_given : (there immediate : Bool) (w : ℕ) {a k v : ℕ} → a ≡ cond there w 0 → k ≡ (operand_pair (operand_of there immediate a)).kind → v ≡ cond immediate a (a % 4096) → pair k v ≡ operand_pair (operand_of there immediate w)
operand_given there immediate w a k v =
    same
    (k ∙ ap (λ (x : ℕ). (operand_pair (operand_of there immediate x)).kind) a ∙ given_kind there immediate w)
    (v ∙ ap (λ (x : ℕ). cond immediate x (x % 4096)) a ∙ given_value there immediate w)
  where
    same : {k v : ℕ} {p : Pair} → k ≡ p.kind → v ≡ p.value → pair k v ≡ p
    same {k} {v} {p} e f = ap (λ (x : ℕ). pair x v) e ∙ ap (pair p.kind) f

-- ---- all of a command's numbers

pub low_place : (head option compare set : ℕ) → place_of (operation_of (group_of (head % 32 / 8)) (head % 32 % 8) option compare set) ≡ place_of (operation_of (group_of (head / 8 % 4)) (head % 8) option compare set)
low_place head option compare set =
    let group : head % 32 / 8 ≡ head / 8 % 4 = omega arith in
    let sub : head % 32 % 8 ≡ head % 8 = omega arith in
    ap (λ (g : ℕ). place_of (operation_of (group_of g) (head % 32 % 8) option compare set)) group
    ∙ ap (λ (s : ℕ). place_of (operation_of (group_of (head / 8 % 4)) s option compare set)) sub

abbrev thirteen : ℕ → ℕ → ℕ → ℕ → ℕ → ℕ → Place → Pair → Pair → List ℕ
thirteen n kind value sub f1 f2 op a b =
    n ∷ kind ∷ value ∷ sub ∷ f1 ∷ f2 ∷ op.number ∷ op.sub ∷ op.code ∷ a.kind ∷ a.value ∷ b.kind ∷ b.value ∷ []

same_thirteen : {n n' kind kind' value value' sub sub' f1 f1' f2 f2' : ℕ} {op op' : Place} {a a' b b' : Pair} →
    n ≡ n' → kind ≡ kind' → value ≡ value' → sub ≡ sub' → f1 ≡ f1' → f2 ≡ f2' → op ≡ op' → a ≡ a' → b ≡ b' →
    thirteen n kind value sub f1 f2 op a b ≡ thirteen n' kind' value' sub' f1' f2' op' a' b'
same_thirteen e1 e2 e3 e4 e5 e6 e7 e8 e9 = cc

pub numbers_told : (l : List ℕ) {op : Place} {a b : Pair} {n kind value sub f1 f2 : ℕ} →
    op ≡ place_of (operation_of (group_of (byte_at l 0 % 32 / 8)) (byte_at l 0 % 32 % 8) (byte_at l 1 % 16) (byte_at l 2) (byte_at l 3)) →
    a ≡ operand_pair (operand_of (leb 1 (count_of l)) (immediate1 l) (be4 l 4)) → b ≡ operand_pair (operand_of (leb 2 (count_of l)) (immediate2 l) (be4 l 8)) →
    n ≡ count_of l → kind ≡ (group_pair (group_of (group_bits l))).kind → value ≡ (group_pair (group_of (group_bits l))).value → sub ≡ sub_of l →
    f1 ≡ flag_number (immediate1 l) → f2 ≡ flag_number (immediate2 l) →
    thirteen n kind value sub f1 f2 op a b ≡ command_numbers (command_of l)
unfolding command_numbers command_of
numbers_told l o a b n kind value sub f1 f2 =
    same_thirteen n kind value sub f1 f2 (o ∙ low_place (byte_at l 0) (byte_at l 1 % 16) (byte_at l 2) (byte_at l 3)) a b
