-- Examples of decoding and encoding a command (document 01, module 4). Assumes nothing.
use Rattle.std.specs.Prelude.{◌≡◌, refl, true, false, List, [], ◌∷◌, ◌++◌, ℕ, replicate, Err, Ok}
use Rattle.laws.specs.Over.{over}
use Rattle.error.specs.declared.Refusal.TheVariants as refusal
use Rattle.nav_command.specs.declared.BranchOp.TheVariants as B
use Rattle.nav_command.specs.declared.CompareOp.TheVariants as C
use Rattle.nav_command.specs.declared.SetOp.TheVariants as S
use Rattle.nav_command.specs.declared.SystemOp.TheVariants as Y
use Rattle.nav_command.specs.declared.Operation.TheVariants as O
use Rattle.nav_command.specs.declared.CommandGroup.{CommandGroup}
use Rattle.nav_command.specs.declared.CommandGroup.TheVariants as G
use Rattle.nav_command.specs.declared.RegisterBank.TheVariants.{Gpr, PsrSecondary}
use Rattle.nav_command.specs.declared.Operand.TheVariants.{Absent, Immediate, Register}
use Rattle.nav_command.specs.declared.DecodedCommand.{DecodedCommand}
use Rattle.common.specs.Rules.{be4}
use Rattle.nav_command.specs.Rules.{branch_of, compare_of, set_of, operand_of, command_of}
use Rattle.nav_encode.specs.Rules.{word_bytes, bytes_of, same, encodable, encoding, encode_of}

-- the bytes of three words
abbrev pub command : ℕ → ℕ → ℕ → List ℕ
command w x y = word_bytes w ++ (word_bytes x ++ word_bytes y)

-- P2, and what it decodes to, in its group or in another
abbrev pub p2 : List ℕ
p2 = command 0x5040_0001 5 0x10

abbrev pub move_in : CommandGroup → DecodedCommand
move_in group =
    record {
      operand_count = 2;
      group = group;
      sub_group = 0;
      imm_op1 = false;
      imm_op2 = true;
      operation = O.Set S.Move;
      operand1 = Register Gpr 5;
      operand2 = Immediate 0x10;
    }

abbrev pub move : DecodedCommand
move = move_in G.Set

-- room lent to the encoder
abbrev room : ℕ → List ℕ
room n = replicate n 0xFF

-- The branch option is bits 19..16: JumpTitle 65,537.
jump_title_fine : (command_of (command 0x2181_0000 0x1_0001 0)).operation ≡ O.Branch B.JumpTitle
unfolding branch_of be4 command_of
jump_title_fine = refl

-- The compare code is bits 15..8: P11.
compare_code : (command_of (command 0x4840_0200 1 7)).operation ≡ O.Compare C.Eq
unfolding compare_of be4 command_of
compare_code = refl

-- Codes of the group Set in sub-group 1: 7 is PopUpOff, and 11 the last that is known.
system_codes : set_of 1 7 ∷ set_of 1 12 ∷ [] ≡ O.System Y.PopUpOff ∷ O.Unknown 1 12 ∷ []
unfolding set_of
system_codes = refl

-- A register's index is the low 12 bits.
index_4087 : (command_of (command 0x5000_0001 5 0xC000_0FF7)).operand2 ≡ Register PsrSecondary 4087
unfolding operand_of be4 command_of
index_4087 = refl

-- A count of 1 gives operand 1 alone.
count_1 : (command_of (command 0x2181_0000 0x1_0001 7)).operand2 ≡ Absent
unfolding operand_of be4 command_of
count_1 = refl

-- The encoder writes the command whose ignored bits are zero, and no byte past it.
encoded : encode_of move (room 13) ≡ encoding (Ok tt) (p2 ++ (0xFF ∷ []))
unfolding over set_of operand_of be4 command_of bytes_of same encodable encode_of
encoded = refl

-- An absent operand's word is ignored, and zero where it is written.
ignored_word : encode_of (command_of (command 0x2181_0000 0x1_0001 7)) (room 12) ≡ encoding (Ok tt) (command 0x2181_0000 0x1_0001 0)
unfolding over branch_of operand_of be4 command_of bytes_of same encodable encode_of
ignored_word = refl

-- No room: eleven bytes stay as they are.
eleven_bytes : encode_of move (room 11) ≡ encoding (Err refusal.NoRoom) (room 11)
unfolding set_of operand_of be4 command_of bytes_of same encodable encode_of
eleven_bytes = refl
