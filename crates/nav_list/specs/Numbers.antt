-- The same line by the numbers of `nav_numbers`, as the code lists it. Assumes nothing.
use Rattle.std.specs.Prelude.{◌≡◌, true, false, List, [], ◌++◌, ℕ, zero, suc, ◌%◌, ◌<◌}
use Rattle.text.specs.Rules.{bytes}
use Rattle.nav_list.specs.declared.Line.{Line}
use Rattle.nav_names.specs.Rules.{mnemonic}
use Rattle.nav_list.specs.Rules.{unknown_text, immediate_text, general_text, status_text}

abbrev pub head_by : ℕ → ℕ → ℕ → List ℕ
head_by zero sub code = unknown_text (sub % 256) (code % 256)
head_by (suc number) sub code = mnemonic (suc number % 256)

abbrev pub operand_by : ℕ → ℕ → List ℕ
operand_by zero value = []
operand_by (suc zero) value = immediate_text value
operand_by (suc (suc zero)) value = general_text (value % 65536)
operand_by (suc (suc (suc zero))) value = status_text (value % 65536) false
operand_by (suc (suc (suc (suc kind)))) value = status_text (value % 65536) true

abbrev pub second_by : ℕ → ℕ → List ℕ
second_by zero value = []
second_by (suc kind) value = bytes ", " ++ operand_by (suc kind) value

abbrev pub operands_by : ℕ → ℕ → ℕ → ℕ → List ℕ
operands_by zero value other second = []
operands_by (suc kind) value other second = bytes " " ++ (operand_by (suc kind) value ++ second_by other second)

unfoldable pub line_by : Line → List ℕ
line_by l =
    head_by l.head.number l.head.sub l.head.code
    ++ operands_by l.first.kind l.first.value l.second.kind l.second.value

-- What the numbers of a line show.
pub record Lines (t : List ℕ) (l : Line) : Type 0 where
  pub text : t ≡ line_by l
  pub first : l.first.value < 0x1_0000_0000
  pub second : l.second.value < 0x1_0000_0000
