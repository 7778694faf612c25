-- Twelve bytes, decoded and laid out again: the ignored bits are cleared, and they decode to the same command. Assumes nothing.
use mathlib.Core.Path.{◌≡◌, ◌∙◌, refl, sym, ap}
use mathlib.Core.Bool.{Bool, true, false}
use mathlib.Core.List.{List, [], ◌∷◌, ◌++◌}
use Prim.Native.Nat.{ℕ, zero, suc, ◌+◌, ◌*◌, ◌/◌, ◌%◌, ◌<◌, ◌≤◌}
use native.Mathlib.Nat.{add-zero, div-div-eq-div-mul}
use native.Mathlib.Omega.{arith}
use lib.Bits.{bit_and}
use lib.Dec.{eqb, leb, ltb}
use borrow.Author.Tests.{lt-ltb, le-ltb, ltb-true, ltb-false}
use Rattle.laws.specs.Table.{listed, at}
use Rattle.nav_command.specs.declared.RegisterBank.{RegisterBank}
use Rattle.nav_command.specs.declared.RegisterBank.TheVariants.{Gpr, Psr, PsrSecondary}
use Rattle.nav_command.specs.declared.DecodedCommand.{DecodedCommand}
use Rattle.common.specs.Rules.{be4}
use Rattle.nav_command.specs.Rules.{operation_of, group_of, bank_of, operand_of, command_of}
use Rattle.nav_encode.specs.Rules.{code_mask, bank_mask, operand_mask, masked, cleared, code_of, bit_of, bits_of, option_of, compare_byte, set_byte, bank_bits, word_of, word_bytes, bytes_of}
use Rattle.nav_encode.proofs.Codes.{branch_code_small, compare_code, set_code}

-- a byte and a mask, as numbers: computed for every byte
agree : (f g : ℕ → ℕ) → listed f 0 256 ≡ listed g 0 256 → (b : ℕ) → b < 256 → f b ≡ g b
agree f g e b h = sym (at f 0 256 refl b h) ∙ at g 0 256 e b h

and_f_f : (b : ℕ) → b < 256 → bit_and b 0xFF ≡ b
and_f_f = agree (λ b. bit_and b 0xFF) (λ b. b) refl

and_00 : (b : ℕ) → b < 256 → bit_and b 0 ≡ 0
and_00 = agree (λ b. bit_and b 0) (λ b. 0) refl

and_c_f : (b : ℕ) → b < 256 → bit_and b 0xCF ≡ b / 128 * 128 + b / 64 % 2 * 64 + b % 16
and_c_f = agree (λ b. bit_and b 0xCF) (λ b. b / 128 * 128 + b / 64 % 2 * 64 + b % 16) refl

and_c0 : (b : ℕ) → b < 256 → bit_and b 0xC0 ≡ b / 128 * 128 + b / 64 % 2 * 64
and_c0 = agree (λ b. bit_and b 0xC0) (λ b. b / 128 * 128 + b / 64 % 2 * 64) refl

and_80 : (b : ℕ) → b < 256 → bit_and b 0x80 ≡ b / 128 * 128
and_80 = agree (λ b. bit_and b 0x80) (λ b. b / 128 * 128) refl

and_0_f : (b : ℕ) → b < 256 → bit_and b 0x0F ≡ b % 16
and_0_f = agree (λ b. bit_and b 0x0F) (λ b. b % 16) refl

bit_test : (x : ℕ) → x < 2 → bit_of (eqb x 1) ≡ x
bit_test zero h = refl
bit_test (suc zero) h = refl
bit_test (suc (suc x)) h = absurd (omega arith)

group_bits_told : (g : ℕ) → g < 4 → bits_of (group_of g) ≡ g
group_bits_told zero h = refl
group_bits_told (suc zero) h = refl
group_bits_told (suc (suc zero)) h = refl
group_bits_told (suc (suc (suc zero))) h = refl
group_bits_told (suc (suc (suc (suc g)))) h = absurd (omega arith)

-- The code, laid out again.

abbrev coded : ℕ → ℕ → ℕ → ℕ → ℕ → ℕ
coded g sub option compare set = code_of (operation_of (group_of g) sub option compare set)

code_kept : (g sub b₁ b₂ b₃ : ℕ) → g < 4 → b₁ < 256 → b₂ < 256 → b₃ < 256 →
    ((b₁ / 128 * 128 + b₁ / 64 % 2 * 64 + option_of (group_of g) (coded g sub (b₁ % 16) b₂ b₃))
    ∷ compare_byte (group_of g) (coded g sub (b₁ % 16) b₂ b₃)
    ∷ set_byte (group_of g) (coded g sub (b₁ % 16) b₂ b₃)
    ∷ [])
    ≡ masked (b₁ ∷ b₂ ∷ b₃ ∷ []) (code_mask g)
code_kept zero sub b₁ b₂ b₃ h h₁ h₂ h₃ =
    let e : b₁ % 16 % 16 ≡ b₁ % 16 = omega arith in
    rw (branch_code_small sub (b₁ % 16), and_c_f b₁ h₁, and_00 b₂ h₂, and_00 b₃ h₃, e)
code_kept (suc zero) sub b₁ b₂ b₃ h h₁ h₂ h₃ =
    let e : b₂ % 256 ≡ b₂ = omega arith in
    rw (compare_code sub b₂, and_c0 b₁ h₁, and_f_f b₂ h₂, and_00 b₃ h₃, e, add-zero (b₁ / 128 * 128 + b₁ / 64 % 2 * 64))
code_kept (suc (suc zero)) sub b₁ b₂ b₃ h h₁ h₂ h₃ =
    let e : b₃ % 256 ≡ b₃ = omega arith in
    rw (set_code sub b₃, and_c0 b₁ h₁, and_00 b₂ h₂, and_f_f b₃ h₃, e, add-zero (b₁ / 128 * 128 + b₁ / 64 % 2 * 64))
code_kept (suc (suc (suc zero))) sub b₁ b₂ b₃ h h₁ h₂ h₃ =
    let e : b₃ % 256 ≡ b₃ = omega arith in
    rw (and_c0 b₁ h₁, and_00 b₂ h₂, and_f_f b₃ h₃, e, add-zero (b₁ / 128 * 128 + b₁ / 64 % 2 * 64))
code_kept (suc (suc (suc (suc g)))) sub b₁ b₂ b₃ h h₁ h₂ h₃ = absurd (omega arith)

-- decoding looks at its group's code only
code_again : (g sub option compare set : ℕ) → g < 4 → option < 16 → compare < 256 → set < 256 →
    operation_of (group_of g) sub (option_of (group_of g) (coded g sub option compare set)) (compare_byte (group_of g) (coded g sub option compare set)) (set_byte (group_of g) (coded g sub option compare set))
    ≡ operation_of (group_of g) sub option compare set
code_again zero sub option compare set h ho hc hs = let e : option % 16 ≡ option = omega arith in rw (branch_code_small sub option, e)
code_again (suc zero) sub option compare set h ho hc hs = let e : compare % 256 ≡ compare = omega arith in rw (compare_code sub compare, e)
code_again (suc (suc zero)) sub option compare set h ho hc hs = let e : set % 256 ≡ set = omega arith in rw (set_code sub set, e)
code_again (suc (suc (suc zero))) sub option compare set h ho hc hs = let e : set % 256 ≡ set = omega arith in rw e
code_again (suc (suc (suc (suc g)))) sub option compare set h ho hc hs = absurd (omega arith)

option_small : (g code : ℕ) → option_of (group_of g) code < 16
option_small zero code = omega arith
option_small (suc zero) code = omega arith
option_small (suc (suc zero)) code = omega arith
option_small (suc (suc (suc g))) code = omega arith

-- An operand, laid out again.

abbrev joined : ℕ → ℕ → ℕ → ℕ → ℕ
joined w₀ w₁ w₂ w₃ = w₀ * 0x100_0000 + w₁ * 0x1_0000 + w₂ * 0x100 + w₃

low_bits : (w₀ w₁ q r w₂ w₃ : ℕ) → w₂ ≡ q * 16 + r → r < 16 → w₃ < 256 → joined w₀ w₁ w₂ w₃ % 4096 % 4096 ≡ r * 256 + w₃
low_bits w₀ w₁ q r w₂ w₃ e h g =
    let split : joined w₀ w₁ w₂ w₃ ≡ (w₀ * 4096 + w₁ * 16 + q) * 4096 + (r * 256 + w₃) = omega arith in
    rw split (last (w₀ * 4096 + w₁ * 16 + q) (r * 256 + w₃) (omega arith))
  where
    last : (k l : ℕ) → l < 4096 → (k * 4096 + l) % 4096 % 4096 ≡ l
    last k l h = omega arith

four_bytes : (top r w₃ : ℕ) → top < 4 → r < 16 → w₃ < 256 → word_bytes (top * 0x4000_0000 + (r * 256 + w₃)) ≡ top * 64 ∷ 0 ∷ r ∷ w₃ ∷ []
four_bytes top r w₃ h g k =
    let v : ℕ = top * 0x4000_0000 + (r * 256 + w₃) in
    let e₀ : v / 0x100_0000 % 256 ≡ top * 64 = omega arith in
    let e₁ : v / 0x1_0000 % 256 ≡ 0 = omega arith in
    let e₂ : v / 0x100 % 256 ≡ r = omega arith in
    let e₃ : v % 256 ≡ w₃ = omega arith in
    rw (e₀, e₁, e₂, e₃)

module _ (w₀ w₁ w₂ w₃ : ℕ) (h₀ : w₀ < 256) (h₁ : w₁ < 256) (h₂ : w₂ < 256) (h₃ : w₃ < 256) where
  abbrev word : ℕ
  word = joined w₀ w₁ w₂ w₃

  whole_kept : word_bytes word ≡ w₀ ∷ w₁ ∷ w₂ ∷ w₃ ∷ []
  whole_kept =
      let e₀ : word / 0x100_0000 % 256 ≡ w₀ = omega arith in
      let e₁ : word / 0x1_0000 % 256 ≡ w₁ = omega arith in
      let e₂ : word / 0x100 % 256 ≡ w₂ = omega arith in
      let e₃ : word % 256 ≡ w₃ = omega arith in
      rw (e₀, e₁, e₂, e₃)

  low_kept : (top : ℕ) → top < 4 → word_bytes (top * 0x4000_0000 + word % 4096 % 4096) ≡ top * 64 ∷ 0 ∷ w₂ % 16 ∷ w₃ ∷ []
  low_kept top h =
      let low : word % 4096 % 4096 ≡ w₂ % 16 * 256 + w₃ = low_bits w₀ w₁ (w₂ / 16) (w₂ % 16) w₂ w₃ (omega arith) (omega arith) h₃ in
      rw low (four_bytes top (w₂ % 16) w₃ h (omega arith) h₃)

  register_kept : word_bytes (bank_bits (bank_of word) * 0x4000_0000 + word % 4096 % 4096) ≡ masked (w₀ ∷ w₁ ∷ w₂ ∷ w₃ ∷ []) (bank_mask w₀ ∷ 0 ∷ 0x0F ∷ 0xFF ∷ [])
  register_kept = go (ltb w₀ 0x80) (ltb w₀ 0xC0) refl refl
    where
      go : (p q : Bool) → ltb w₀ 0x80 ≡ p → ltb w₀ 0xC0 ≡ q → word_bytes (bank_bits (bank_of word) * 0x4000_0000 + word % 4096 % 4096) ≡ masked (w₀ ∷ w₁ ∷ w₂ ∷ w₃ ∷ []) (bank_mask w₀ ∷ 0 ∷ 0x0F ∷ 0xFF ∷ [])
      go true q e f =
          let h : w₀ < 0x80 = ltb-true w₀ 0x80 e in
          let z : w₀ / 128 * 128 ≡ 0 * 64 = omega arith in
          rw (lt-ltb word 0x8000_0000 (omega arith), e, low_kept 0 (omega arith), and_80 w₀ h₀, and_00 w₁ h₁, and_0_f w₂ h₂, and_f_f w₃ h₃, z)
      go false true e f =
          let h : 0x80 ≤ w₀ = ltb-false w₀ 0x80 e in
          let k : w₀ < 0xC0 = ltb-true w₀ 0xC0 f in
          let z : w₀ / 128 * 128 + w₀ / 64 % 2 * 64 ≡ 2 * 64 = omega arith in
          rw (le-ltb word 0x8000_0000 (omega arith), lt-ltb word 0xC000_0000 (omega arith), e, low_kept 2 (omega arith), and_c0 w₀ h₀, and_00 w₁ h₁, and_0_f w₂ h₂, and_f_f w₃ h₃, z)
      go false false e f =
          let k : 0xC0 ≤ w₀ = ltb-false w₀ 0xC0 f in
          let z : w₀ / 128 * 128 + w₀ / 64 % 2 * 64 ≡ 3 * 64 = omega arith in
          rw (le-ltb word 0x8000_0000 (omega arith), le-ltb word 0xC000_0000 (omega arith), e, low_kept 3 (omega arith), and_c0 w₀ h₀, and_00 w₁ h₁, and_0_f w₂ h₂, and_f_f w₃ h₃, z)

  operand_kept : (there immediate : Bool) → word_bytes (word_of (operand_of there immediate word)) ≡ masked (w₀ ∷ w₁ ∷ w₂ ∷ w₃ ∷ []) (operand_mask there immediate w₀)
  unfolding operand_of
  operand_kept false immediate = rw (and_00 w₀ h₀, and_00 w₁ h₁, and_00 w₂ h₂, and_00 w₃ h₃)
  operand_kept true true = rw (and_f_f w₀ h₀, and_f_f w₁ h₁, and_f_f w₂ h₂, and_f_f w₃ h₃) whole_kept
  operand_kept true false = register_kept

-- an operand's word decodes to the operand
bank_again : (bank : RegisterBank) (i : ℕ) → bank_of (bank_bits bank * 0x4000_0000 + i % 4096) ≡ bank
bank_again Gpr i = rw (lt-ltb (0 * 0x4000_0000 + i % 4096) 0x8000_0000 (omega arith))
bank_again Psr i = rw (le-ltb (2 * 0x4000_0000 + i % 4096) 0x8000_0000 (omega arith), lt-ltb (2 * 0x4000_0000 + i % 4096) 0xC000_0000 (omega arith))
bank_again PsrSecondary i = rw (le-ltb (3 * 0x4000_0000 + i % 4096) 0x8000_0000 (omega arith), le-ltb (3 * 0x4000_0000 + i % 4096) 0xC000_0000 (omega arith))

index_again : (top i : ℕ) → (top * 0x4000_0000 + i % 4096 % 4096) % 4096 ≡ i % 4096
index_again top i = omega arith

operand_again : (there immediate : Bool) (w : ℕ) → operand_of there immediate (word_of (operand_of there immediate w)) ≡ operand_of there immediate w
unfolding operand_of
operand_again false immediate w = refl
operand_again true true w = refl
operand_again true false w = rw (bank_again (bank_of w) (w % 4096), index_again (bank_bits (bank_of w)) w)

bank_small : (bank : RegisterBank) → bank_bits bank < 4
bank_small Gpr = omega arith
bank_small Psr = omega arith
bank_small PsrSecondary = omega arith

word_small : (there immediate : Bool) (w : ℕ) → w < 0x1_0000_0000 → word_of (operand_of there immediate w) < 0x1_0000_0000
unfolding operand_of
word_small false immediate w h = omega arith
word_small true true w h = h
word_small true false w h = omega (arith, bank_small (bank_of w))

-- Four bytes of a word are the word.
rejoined : (v : ℕ) → v < 0x1_0000_0000 → joined (v / 0x100_0000 % 256) (v / 0x1_0000 % 256) (v / 0x100 % 256) (v % 256) ≡ v
rejoined v h =
    let e : v / 0x1_0000 ≡ v / 256 / 256 = sym (div-div-eq-div-mul v 256 256) in
    let f : v / 0x100_0000 ≡ v / 256 / 256 / 256 = sym (div-div-eq-div-mul v 0x1_0000 256) ∙ ap (λ (x : ℕ). x / 256) e in
    rw (e, f) (from_bytes v (v / 256) (v / 256 / 256) (v / 256 / 256 / 256) (v % 256) (v / 256 % 256) (v / 256 / 256 % 256) (omega arith) (omega arith) (omega arith) (omega arith))
  where
    from_bytes : (v p q r a b c : ℕ) → v ≡ p * 256 + a → p ≡ q * 256 + b → q ≡ r * 256 + c → r < 256 → joined (r % 256) c b a ≡ v
    from_bytes v p q r a b c e f g h = omega arith

-- What decoding reads in fields that were laid out.
abbrev fields : ℕ → ℕ → ℕ → Bool → Bool → ℕ → ℕ → ℕ → ℕ → ℕ → DecodedCommand
fields n g s i j o c d v w =
    record {
      operand_count = n;
      group = group_of g;
      sub_group = s;
      imm_op1 = i;
      imm_op2 = j;
      operation = operation_of (group_of g) s o c d;
      operand1 = operand_of (leb 1 n) i v;
      operand2 = operand_of (leb 2 n) j w;
    }

module _ (n g s x y o c d v w : ℕ) (hn : n < 8) (hg : g < 4) (hs : s < 8) (hx : x < 2) (hy : y < 2) (ho : o < 16) (hv : v < 0x1_0000_0000) (hw : w < 0x1_0000_0000) where
  laid_out : command_of ((n * 32 + g * 8 + s) ∷ (x * 128 + y * 64 + o) ∷ c ∷ d ∷ (word_bytes v ++ word_bytes w)) ≡ fields n g s (eqb x 1) (eqb y 1) o c d v w
  unfolding command_of be4
  laid_out =
      let en : (n * 32 + g * 8 + s) / 32 ≡ n = omega arith in
      let eg : (n * 32 + g * 8 + s) / 8 % 4 ≡ g = omega arith in
      let es : (n * 32 + g * 8 + s) % 8 ≡ s = omega arith in
      let ex : (x * 128 + y * 64 + o) / 128 ≡ x = omega arith in
      let ey : (x * 128 + y * 64 + o) / 64 % 2 ≡ y = omega arith in
      let eo : (x * 128 + y * 64 + o) % 16 ≡ o = omega arith in
      rw (en, eg, es, ex, ey, eo, rejoined v hv, rejoined w hw)

-- The masks, part by part.
masked_code : (g b₁ b₂ b₃ : ℕ) (rest masks : List ℕ) → masked (b₁ ∷ b₂ ∷ b₃ ∷ rest) (code_mask g ++ masks) ≡ masked (b₁ ∷ b₂ ∷ b₃ ∷ []) (code_mask g) ++ masked rest masks
masked_code zero b₁ b₂ b₃ rest masks = refl
masked_code (suc zero) b₁ b₂ b₃ rest masks = refl
masked_code (suc (suc g)) b₁ b₂ b₃ rest masks = refl

masked_operand : (there immediate : Bool) (top w₀ w₁ w₂ w₃ : ℕ) (rest masks : List ℕ) → masked (w₀ ∷ w₁ ∷ w₂ ∷ w₃ ∷ rest) (operand_mask there immediate top ++ masks) ≡ masked (w₀ ∷ w₁ ∷ w₂ ∷ w₃ ∷ []) (operand_mask there immediate top) ++ masked rest masks
masked_operand false immediate top w₀ w₁ w₂ w₃ rest masks = refl
masked_operand true true top w₀ w₁ w₂ w₃ rest masks = refl
masked_operand true false top w₀ w₁ w₂ w₃ rest masks = refl

bit_back : (b : Bool) → eqb (bit_of b) 1 ≡ b
bit_back true = refl
bit_back false = refl

pub bit_small : (b : Bool) → bit_of b < 2
bit_small true = omega arith
bit_small false = omega arith

module _ (b₀ b₁ b₂ b₃ b₄ b₅ b₆ b₇ b₈ b₉ b₁₀ b₁₁ : ℕ) (h₀ : b₀ < 256) (h₁ : b₁ < 256) (h₂ : b₂ < 256) (h₃ : b₃ < 256) (h₄ : b₄ < 256) (h₅ : b₅ < 256) (h₆ : b₆ < 256) (h₇ : b₇ < 256) (h₈ : b₈ < 256) (h₉ : b₉ < 256) (h₁₀ : b₁₀ < 256) (h₁₁ : b₁₁ < 256) where
  abbrev bytes : List ℕ
  bytes = b₀ ∷ b₁ ∷ b₂ ∷ b₃ ∷ b₄ ∷ b₅ ∷ b₆ ∷ b₇ ∷ b₈ ∷ b₉ ∷ b₁₀ ∷ b₁₁ ∷ []

  abbrev g : ℕ
  g = b₀ / 8 % 4

  abbrev code : ℕ
  code = coded g (b₀ % 8) (b₁ % 16) b₂ b₃

  abbrev flag₁ : Bool
  flag₁ = eqb (b₁ / 128) 1

  abbrev flag₂ : Bool
  flag₂ = eqb (b₁ / 64 % 2) 1

  abbrev first : ℕ
  first = word_of (operand_of (leb 1 (b₀ / 32)) flag₁ (joined b₄ b₅ b₆ b₇))

  abbrev second : ℕ
  second = word_of (operand_of (leb 2 (b₀ / 32)) flag₂ (joined b₈ b₉ b₁₀ b₁₁))

  abbrev laid_code : List ℕ
  laid_code = (bit_of flag₁ * 128 + bit_of flag₂ * 64 + option_of (group_of g) code) ∷ compare_byte (group_of g) code ∷ set_byte (group_of g) code ∷ []

  code_part : laid_code ≡ masked (b₁ ∷ b₂ ∷ b₃ ∷ []) (code_mask g)
  code_part = rw (bit_test (b₁ / 128) (omega arith), bit_test (b₁ / 64 % 2) (omega arith)) (code_kept g (b₀ % 8) b₁ b₂ b₃ (omega arith) h₁ h₂ h₃)

  head_part : b₀ / 32 % 8 * 32 + bits_of (group_of g) * 8 + b₀ % 8 % 8 ≡ bit_and b₀ 0xFF
  head_part = rw (group_bits_told g (omega arith), and_f_f b₀ h₀) (omega arith)

  abbrev code_bytes : List ℕ
  code_bytes = masked (b₁ ∷ b₂ ∷ b₃ ∷ []) (code_mask g)

  abbrev first_bytes : List ℕ
  first_bytes = masked (b₄ ∷ b₅ ∷ b₆ ∷ b₇ ∷ []) (operand_mask (leb 1 (b₀ / 32)) flag₁ b₄)

  abbrev second_bytes : List ℕ
  second_bytes = masked (b₈ ∷ b₉ ∷ b₁₀ ∷ b₁₁ ∷ []) (operand_mask (leb 2 (b₀ / 32)) flag₂ b₈)

  parts : cleared bytes ≡ bit_and b₀ 0xFF ∷ (code_bytes ++ (first_bytes ++ second_bytes))
  unfolding cleared
  parts =
      ap (λ (x : List ℕ). bit_and b₀ 0xFF ∷ x)
      (masked_code g b₁ b₂ b₃ (b₄ ∷ b₅ ∷ b₆ ∷ b₇ ∷ b₈ ∷ b₉ ∷ b₁₀ ∷ b₁₁ ∷ []) (operand_mask (leb 1 (b₀ / 32)) flag₁ b₄ ++ operand_mask (leb 2 (b₀ / 32)) flag₂ b₈)
      ∙ ap (λ (x : List ℕ). code_bytes ++ x) (masked_operand (leb 1 (b₀ / 32)) flag₁ b₄ b₄ b₅ b₆ b₇ (b₈ ∷ b₉ ∷ b₁₀ ∷ b₁₁ ∷ []) (operand_mask (leb 2 (b₀ / 32)) flag₂ b₈)))

  pub kept : bytes_of (command_of bytes) ≡ cleared bytes
  unfolding bytes_of command_of be4
  kept =
      ap (λ (x : ℕ). x ∷ (laid_code ++ (word_bytes first ++ word_bytes second))) head_part
      ∙ ap (λ (x : List ℕ). bit_and b₀ 0xFF ∷ (x ++ (word_bytes first ++ word_bytes second))) code_part
      ∙ ap (λ (x : List ℕ). bit_and b₀ 0xFF ∷ (code_bytes ++ (x ++ word_bytes second))) (operand_kept b₄ b₅ b₆ b₇ h₄ h₅ h₆ h₇ (leb 1 (b₀ / 32)) flag₁)
      ∙ ap (λ (x : List ℕ). bit_and b₀ 0xFF ∷ (code_bytes ++ (first_bytes ++ x))) (operand_kept b₈ b₉ b₁₀ b₁₁ h₈ h₉ h₁₀ h₁₁ (leb 2 (b₀ / 32)) flag₂)
      ∙ sym parts

  word_lt : (w₀ w₁ w₂ w₃ : ℕ) → w₀ < 256 → w₁ < 256 → w₂ < 256 → w₃ < 256 → joined w₀ w₁ w₂ w₃ < 0x1_0000_0000
  word_lt w₀ w₁ w₂ w₃ k₀ k₁ k₂ k₃ = omega arith

  pub again : command_of (bytes_of (command_of bytes)) ≡ command_of bytes
  unfolding bytes_of command_of be4
  again =
      let en : b₀ / 32 % 8 ≡ b₀ / 32 = omega arith in
      let es : b₀ % 8 % 8 ≡ b₀ % 8 = omega arith in
      laid_out (b₀ / 32 % 8) (bits_of (group_of g)) (b₀ % 8 % 8) (bit_of flag₁) (bit_of flag₂) (option_of (group_of g) code) (compare_byte (group_of g) code) (set_byte (group_of g) code) first second
      (omega arith) (omega (arith, group_bits_told g (omega arith))) (omega arith) (bit_small flag₁) (bit_small flag₂) (option_small g code)
      (word_small (leb 1 (b₀ / 32)) flag₁ (joined b₄ b₅ b₆ b₇) (word_lt b₄ b₅ b₆ b₇ h₄ h₅ h₆ h₇))
      (word_small (leb 2 (b₀ / 32)) flag₂ (joined b₈ b₉ b₁₀ b₁₁) (word_lt b₈ b₉ b₁₀ b₁₁ h₈ h₉ h₁₀ h₁₁))
      ∙ rw (
        en,
        es,
        group_bits_told g (omega arith),
        bit_back flag₁,
        bit_back flag₂,
        code_again g (b₀ % 8) (b₁ % 16) b₂ b₃ (omega arith) (omega arith) h₂ h₃,
        operand_again (leb 1 (b₀ / 32)) flag₁ (joined b₄ b₅ b₆ b₇),
        operand_again (leb 2 (b₀ / 32)) flag₂ (joined b₈ b₉ b₁₀ b₁₁),
      )
