-- Lines that are computed from their bytes. Assumes nothing.
use mathlib.Core.Path.{◌≡◌, refl}
use mathlib.Core.List.{[], ◌∷◌}
use lib.ListN.{length}
use Rattle.text.specs.Rules.{bytes, numeral}
use Rattle.register_model.specs.Rules.{class_of}
use Rattle.register_model.specs.Names.{name_of}
use Rattle.nav_names.specs.Rules.{mnemonic, name_text}
use Rattle.common.specs.Rules.{be4}
use Rattle.nav_command.specs.Rules.{branch_of, compare_of, set_of, operand_of, command_of}
use Rattle.nav_list.specs.Rules.{unknown_text, immediate_text, general_text, status_text, line_of}

-- twelve zero bytes, and the listing program's example
nop : line_of (command_of (0 ∷ 0 ∷ 0 ∷ 0 ∷ 0 ∷ 0 ∷ 0 ∷ 0 ∷ 0 ∷ 0 ∷ 0 ∷ 0 ∷ [])) ≡ bytes "Nop"
unfolding line_of be4 command_of branch_of operand_of mnemonic
nop = refl

move : line_of (command_of (0x50 ∷ 0x40 ∷ 0 ∷ 1 ∷ 0 ∷ 0 ∷ 0 ∷ 5 ∷ 0 ∷ 0 ∷ 0 ∷ 0x10 ∷ [])) ≡ bytes "Move r5, 0x10"
unfolding line_of be4 command_of set_of operand_of mnemonic general_text immediate_text numeral
move = refl

-- a named register, a reserved one, and one past the last
title : line_of (command_of (0x48 ∷ 0 ∷ 2 ∷ 0 ∷ 0x80 ∷ 0 ∷ 0 ∷ 4 ∷ 0x80 ∷ 0 ∷ 0 ∷ 21 ∷ [])) ≡ bytes "Eq PSR4(Title), PSR21"
unfolding line_of be4 command_of compare_of operand_of mnemonic status_text name_text class_of name_of numeral
title = refl

secondary : line_of (command_of (0x21 ∷ 1 ∷ 0 ∷ 0 ∷ 0xC0 ∷ 0 ∷ 0 ∷ 0x80 ∷ 0 ∷ 0 ∷ 0 ∷ 0 ∷ [])) ≡ bytes "JumpTitle PSR128'"
unfolding line_of be4 command_of branch_of operand_of mnemonic status_text name_text class_of name_of numeral
secondary = refl

unknown : line_of (command_of (0 ∷ 7 ∷ 0 ∷ 0 ∷ 0 ∷ 0 ∷ 0 ∷ 0 ∷ 0 ∷ 0 ∷ 0 ∷ 0 ∷ [])) ≡ bytes "Unknown(sub_grp=0,sel=0x7)"
unfolding line_of be4 command_of branch_of operand_of unknown_text numeral
unknown = refl

-- the longest line there is
longest : length (line_of (command_of (0x5F ∷ 0 ∷ 0 ∷ 0xFF ∷ 0xC0 ∷ 0 ∷ 0 ∷ 48 ∷ 0xC0 ∷ 0 ∷ 0 ∷ 48 ∷ []))) ≡ 102
unfolding line_of be4 command_of operand_of unknown_text status_text name_text class_of name_of numeral
longest = refl
