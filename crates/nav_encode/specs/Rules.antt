-- The twelve bytes of a command, whose ignored bits are zero (document 01, module 4). Assumes nothing.
use Rattle.std.specs.Prelude.{Bool, true, false, cond, ◌&&◌, List, [], ◌∷◌, ◌++◌, ℕ, zero, suc, ◌+◌, ◌*◌, ◌/◌, ◌%◌, ◌<◌, ◌≡◌, eqb, leb, ltb, length, Err, Ok}
use Rattle.std.specs.Int.Bits.{bit_and}
use Rattle.laws.specs.Over.{over}
use Rattle.error.specs.declared.Refusal.TheVariants.{NoRoom, NotEncodable}
use Rattle.error.specs.Rules.{Verdict}
use Rattle.nav_command.specs.declared.BranchOp.{BranchOp}
use Rattle.nav_command.specs.declared.BranchOp.TheVariants as B
use Rattle.nav_command.specs.declared.Operation.{Operation}
use Rattle.nav_command.specs.declared.Operation.TheVariants.{Branch, Compare, Set, System, Unknown}
use Rattle.nav_command.specs.declared.CommandGroup.{CommandGroup}
use Rattle.nav_command.specs.declared.CommandGroup.TheVariants as G
use Rattle.nav_command.specs.declared.RegisterBank.{RegisterBank}
use Rattle.nav_command.specs.declared.RegisterBank.TheVariants.{Gpr, Psr, PsrSecondary}
use Rattle.nav_command.specs.declared.Operand.{Operand}
use Rattle.nav_command.specs.declared.Operand.TheVariants.{Absent, Immediate, Register}
use Rattle.nav_command.specs.declared.DecodedCommand.{DecodedCommand}
use Rattle.nav_command.specs.Rules.{byte_at, count_of, group_bits, immediate1, immediate2, command_of, compare_number, set_number, system_number, number_of}

-- Twelve bytes.
pub record Twelve (bytes : List ℕ) : Type 0 where
  pub long : length bytes ≡ 12
  pub small : (i : ℕ) → byte_at bytes i < 256

-- The bits that decoding looks at: byte 0, the two flags, and the branch option, the compare code (byte 2) or the set code (byte 3).

abbrev pub code_mask : ℕ → List ℕ
code_mask zero = 0xCF ∷ 0 ∷ 0 ∷ []
code_mask (suc zero) = 0xC0 ∷ 0xFF ∷ 0 ∷ []
code_mask (suc (suc group)) = 0xC0 ∷ 0 ∷ 0xFF ∷ []

-- An operand that stands: whole if it is immediate, else the bank's bits (bit 30 only beside bit 31) and the low 12 bits.
abbrev pub bank_mask : ℕ → ℕ
bank_mask top = cond (ltb top 0x80) 0x80 0xC0

abbrev pub operand_mask : Bool → Bool → ℕ → List ℕ
operand_mask false immediate top = 0 ∷ 0 ∷ 0 ∷ 0 ∷ []
operand_mask true true top = 0xFF ∷ 0xFF ∷ 0xFF ∷ 0xFF ∷ []
operand_mask true false top = bank_mask top ∷ 0 ∷ 0x0F ∷ 0xFF ∷ []

abbrev pub mask_of : List ℕ → List ℕ
mask_of bytes =
    0xFF
    ∷ (code_mask (group_bits bytes)
    ++ (operand_mask (leb 1 (count_of bytes)) (immediate1 bytes) (byte_at bytes 4)
    ++ operand_mask (leb 2 (count_of bytes)) (immediate2 bytes) (byte_at bytes 8)))

-- All other bits are ignored: the bytes with zeros there.
abbrev pub masked : List ℕ → List ℕ → List ℕ
masked [] masks = []
masked (b ∷ bytes) [] = b ∷ bytes
masked (b ∷ bytes) (m ∷ masks) = bit_and b m ∷ masked bytes masks

unfoldable pub cleared : List ℕ → List ℕ
cleared bytes = masked bytes (mask_of bytes)

-- A command's fields, each at its place.

-- the code of an operation: its place in its row of the sheet
abbrev pub branch_code : BranchOp → ℕ
branch_code B.Nop = 0
branch_code B.GoTo = 1
branch_code B.Break = 2
branch_code B.JumpObject = 0
branch_code B.JumpTitle = 1
branch_code B.CallObject = 2
branch_code B.CallTitle = 3
branch_code B.Resume = 4
branch_code B.PlayPL = 0
branch_code B.PlayPLatPlayItem = 1
branch_code B.PlayPLatMark = 2
branch_code B.TerminatePL = 3
branch_code B.LinkPI = 4
branch_code B.LinkMK = 5

abbrev pub code_of : Operation → ℕ
code_of (Branch op) = branch_code op
code_of (Compare op) = compare_number op
code_of (Set op) = set_number op
code_of (System op) = system_number op
code_of (Unknown sub code) = code

abbrev pub bit_of : Bool → ℕ
bit_of true = 1
bit_of false = 0

-- the first byte's group bits, and the low half of byte 1, byte 2 and byte 3
abbrev pub bits_of : CommandGroup → ℕ
bits_of G.Branch = 0
bits_of G.Compare = 1
bits_of G.Set = 2
bits_of (G.Reserved g) = 3

abbrev pub option_of : CommandGroup → ℕ → ℕ
option_of G.Branch code = code % 16
option_of G.Compare code = 0
option_of G.Set code = 0
option_of (G.Reserved g) code = 0

abbrev pub compare_byte : CommandGroup → ℕ → ℕ
compare_byte G.Branch code = 0
compare_byte G.Compare code = code % 256
compare_byte G.Set code = 0
compare_byte (G.Reserved g) code = 0

abbrev pub set_byte : CommandGroup → ℕ → ℕ
set_byte G.Branch code = 0
set_byte G.Compare code = 0
set_byte G.Set code = code % 256
set_byte (G.Reserved g) code = code % 256

abbrev pub bank_bits : RegisterBank → ℕ
bank_bits Gpr = 0
bank_bits Psr = 2
bank_bits PsrSecondary = 3

abbrev pub word_of : Operand → ℕ
word_of Absent = 0
word_of (Immediate value) = value
word_of (Register bank index) = bank_bits bank * 0x4000_0000 + index % 4096

abbrev pub word_bytes : ℕ → List ℕ
word_bytes w = w / 0x100_0000 % 256 ∷ w / 0x1_0000 % 256 ∷ w / 0x100 % 256 ∷ w % 256 ∷ []

abbrev pub head_of : DecodedCommand → ℕ
head_of c = c.operand_count % 8 * 32 + bits_of c.group * 8 + c.sub_group % 8

abbrev pub flags_of : DecodedCommand → ℕ
flags_of c = bit_of c.imm_op1 * 128 + bit_of c.imm_op2 * 64 + option_of c.group (code_of c.operation)

unfoldable pub bytes_of : DecodedCommand → List ℕ
bytes_of c =
    head_of c
    ∷ flags_of c
    ∷ compare_byte c.group (code_of c.operation)
    ∷ set_byte c.group (code_of c.operation)
    ∷ (word_bytes (word_of c.operand1) ++ word_bytes (word_of c.operand2))

-- Two commands are the same if all their fields are, each as numbers.

pub record Key : Type 0 where
  pub kind : ℕ
  pub value : ℕ
  pub more : ℕ

abbrev pub key : ℕ → ℕ → ℕ → Key
key k v m = record { kind = k; value = v; more = m }

abbrev pub group_key : CommandGroup → Key
group_key G.Branch = key 0 0 0
group_key G.Compare = key 1 0 0
group_key G.Set = key 2 0 0
group_key (G.Reserved g) = key 3 g 0

abbrev pub operation_key : Operation → Key
operation_key (Branch op) = key (number_of (Branch op)) 0 0
operation_key (Compare op) = key (number_of (Compare op)) 0 0
operation_key (Set op) = key (number_of (Set op)) 0 0
operation_key (System op) = key (number_of (System op)) 0 0
operation_key (Unknown sub code) = key 0 sub code

abbrev pub operand_key : Operand → Key
operand_key Absent = key 0 0 0
operand_key (Immediate value) = key 1 value 0
operand_key (Register bank index) = key 2 index (bank_bits bank)

abbrev pub same_key : Key → Key → Bool
same_key a b = eqb a.kind b.kind && eqb a.value b.value && eqb a.more b.more

abbrev pub same_flags : DecodedCommand → DecodedCommand → Bool
same_flags a b = eqb (bit_of a.imm_op1) (bit_of b.imm_op1) && eqb (bit_of a.imm_op2) (bit_of b.imm_op2)

unfoldable pub same : DecodedCommand → DecodedCommand → Bool
same a b =
    eqb a.operand_count b.operand_count
    && eqb a.sub_group b.sub_group
    && same_flags a b
    && same_key (group_key a.group) (group_key b.group)
    && same_key (operation_key a.operation) (operation_key b.operation)
    && same_key (operand_key a.operand1) (operand_key b.operand1)
    && same_key (operand_key a.operand2) (operand_key b.operand2)

-- A command can be encoded if its own bytes decode to it. (That no others do otherwise: Theorems.antt.)
unfoldable pub encodable : DecodedCommand → Bool
encodable c = same (command_of (bytes_of c)) c

-- What encoding into lent room answers and leaves: refusal 9, then 5, and then nothing is altered.
pub record Encoding : Type 0 where
  pub answer : Verdict
  pub held : List ℕ

abbrev pub encoding : Verdict → List ℕ → Encoding
encoding v l = record { answer = v; held = l }

unfoldable pub encode_of : DecodedCommand → List ℕ → Encoding
encode_of c l =
    cond (encodable c)
    (cond (leb 12 (length l)) (encoding (Ok tt) (over l 0 (bytes_of c))) (encoding (Err NoRoom) l))
    (encoding (Err NotEncodable) l)
