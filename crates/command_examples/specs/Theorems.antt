-- The theorems on one command at small inputs (document 01, module 4). Assumes nothing.
use Rattle.std.specs.Prelude.{◌≡◌, refl, List, ℕ, replicate, Err, Ok}
use Rattle.laws.specs.Over.{over}
use Rattle.error.specs.declared.Refusal.TheVariants as refusal
use Rattle.nav_command.specs.declared.CommandGroup.TheVariants as G
use Rattle.nav_command.specs.declared.DecodedCommand.{DecodedCommand}
use Rattle.common.specs.Rules.{be4}
use Rattle.nav_command.specs.Rules.{branch_of, set_of, operand_of, command_of}
use Rattle.nav_encode.specs.Rules.{cleared, bytes_of, same, encodable, encoding, encode_of}
use Rattle.nav_encode.specs.Theorems.{encoded, NoneDecode}
use Rattle.nav_encode.proofs.Claims.{refused}
use Rattle.nav_numbers.specs.Rules.{command_numbers, group_named, operand_named, sheet_named, command_named}
use Rattle.command_examples.specs.Commands.{command, p2, move_in, move}

-- what the examples compute with
opened : Unit {0}
unfolding over branch_of set_of operand_of be4 command_of cleared bytes_of same encodable encode_of command_numbers group_named operand_named sheet_named command_named
opened = tt

-- room lent to the encoder
abbrev room : ℕ → List ℕ
room n = replicate n 0xFF

-- Decoding what was encoded gives the command back, and its ignored bits are zero: P2.
decoded_back : command_of (encoded move (room 12)) ≡ move
unfolding opened
decoded_back = refl

no_bit_to_clear : cleared (encoded move (room 12)) ≡ p2
unfolding opened
no_bit_to_clear = refl

-- JumpTitle 65,537 with its ignored bits zero; and with bits 21 and 20, both other codes and the absent operand's word set
abbrev bare : List ℕ
bare = command 0x2181_0000 0x1_0001 0

abbrev worn : List ℕ
worn = command 0x21B1_3333 0x1_0001 7

-- Encoding what was decoded gives the bytes with the ignored bits zero.
encoded_back : encode_of (command_of worn) (room 12) ≡ encoding (Ok tt) bare
unfolding opened
encoded_back = refl

-- Move, which stands in the group Set, in another group
abbrev misplaced : DecodedCommand
misplaced = move_in G.Branch

-- Not encodable: no twelve bytes decode to the command. P2 decodes to its own, which has no room in eleven bytes.
none_decode : NoneDecode misplaced
unfolding opened
none_decode = (refused misplaced (room 12)).0 refl

some_decode : (encode_of (command_of p2) (room 11)).answer ≡ Err refusal.NoRoom
unfolding opened
some_decode = refl

-- Bytes decode alike exactly if they differ in ignored bits alone: those of `worn`, and bits 30..12 of a general register.
decoded_alike : command_of worn ≡ command_of bare
unfolding opened
decoded_alike = refl

register_word : cleared (command 0x5000_0001 5 0x7FFF_F010) ≡ command 0x5000_0001 5 0x10
unfolding opened
register_word = refl

-- The numbers of a command name it: here an unknown code with two secondary registers.
abbrev pub long : List ℕ
long = command 0x5F00_00FF 0xC000_0030 0xC000_0030

named_by_its_numbers : command_named (command_numbers (command_of long)) ≡ command_of long
unfolding opened
named_by_its_numbers = refl
