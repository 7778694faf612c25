-- Examples of what the calls for one command hand out (include/mescjadro.h). Assumes nothing.
use Rattle.std.specs.Prelude.{◌≡◌, refl, List, [], ◌∷◌, ◌++◌, ℕ, replicate}
use Rattle.laws.specs.Firsts.{all}
use Rattle.laws.specs.Over.{over}
use Rattle.text.specs.Rules.{bytes, numeral}
use Rattle.common.specs.Rules.{be4}
use Rattle.nav_command.specs.Rules.{branch_of, set_of, operand_of, command_of}
use Rattle.nav_encode.specs.Rules.{word_bytes, bytes_of, same, encodable, encode_of}
use Rattle.nav_names.specs.Rules.{mnemonic}
use Rattle.nav_list.specs.Rules.{immediate_text, general_text, line_of, list_of}
use Rattle.nav_numbers.specs.Rules.{command_numbers, group_named, operand_named, sheet_named, command_named, is_command}
use Rattle.lent.specs.Rules.{handed, size, measured}
use Rattle.command_calls.specs.Rules.{decode_call, encode_call, list_command_call}

-- what the examples compute with
opened : Unit {0}
unfolding all over numeral branch_of set_of operand_of be4 command_of bytes_of same encodable encode_of mnemonic immediate_text general_text line_of list_of command_numbers group_named operand_named sheet_named command_named is_command decode_call encode_call list_command_call
opened = tt

-- the bytes of a command's three words, and P2
abbrev command : ℕ → ℕ → ℕ → List ℕ
command w x y = word_bytes w ++ word_bytes x ++ word_bytes y

abbrev p2 : List ℕ
p2 = command 0x5040_0001 5 0x10

-- Nop, without operands, is the first of the sheet.
abbrev nop : List ℕ
nop = 0 ∷ 0 ∷ 0 ∷ 0 ∷ 0 ∷ 0 ∷ 1 ∷ 0 ∷ 0 ∷ 0 ∷ 0 ∷ 0 ∷ 0 ∷ []

nop_decoded : decode_call (replicate 12 0) (replicate 13 9) ≡ handed 0 nop
unfolding opened
nop_decoded = refl

-- 6 bad buffer: a command has thirteen numbers.
twelve_numbers : decode_call (replicate 12 0) (replicate 12 9) ≡ handed 6 (replicate 12 9)
unfolding opened
twelve_numbers = refl

-- The twelve bytes at the start of a room; its rest stays.
nop_encoded : encode_call nop (replicate 13 9) ≡ handed 0 (replicate 12 0 ++ (9 ∷ []))
unfolding opened
nop_encoded = refl

-- 9 not encodable: an operation without a place on the sheet whose sub-group and code are those of Nop.
no_such_unknown : encode_call (replicate 13 0) (replicate 12 9) ≡ handed 9 (replicate 12 9)
unfolding opened
no_such_unknown = refl

-- P2's text of thirteen bytes, without a line end, and its length.
p2_listed : list_command_call p2 (replicate 15 9) 0 ≡ measured (bytes "Move r5, 0x10" ++ (9 ∷ 9 ∷ [])) (size 0 13)
unfolding opened
p2_listed = refl

-- 6 bad buffer, a command of eleven bytes: the room and the length stay as they were.
eleven_bytes : list_command_call (replicate 11 0) (replicate 15 9) 7 ≡ measured (replicate 15 9) (size 6 7)
unfolding opened
eleven_bytes = refl
