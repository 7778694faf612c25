-- What inner functions of the code promise one another, in terms of the rules; none of it has to be believed. Assumes nothing.
use Rattle.std.specs.Prelude.{Bool, true, false, List, ℕ, ◌%◌, leb}
use Rattle.common.specs.Rules.{be4}
use Rattle.nav_command.specs.Rules.{byte_at, count_of, sub_of, immediate1, immediate2}
use Rattle.nav_command.specs.Rules as nav
use Rattle.registers.specs.declared.Raw.{Raw}
use Rattle.registers.specs.Rules.{Banks, value_of}
use Rattle.registers.specs.Pieces.{raw, meant}
use Rattle.vm.specs.declared.Step.{Step}
use Rattle.vm.specs.declared.Step.TheVariants.{Continue, Skipped, Halted, Branch}
use Rattle.vm.specs.declared.Stepped.{Stepped}
use Rattle.vm.specs.declared.End.{End}
use Rattle.vm.specs.declared.End.TheVariants as E
use Rattle.vm.specs.Rules.{After, exec_branch, holds_for, compare_of, exec_set}

-- What the code's pieces mean: an operand's flags and word, a command taken for one of a group, and a run of one step.

abbrev pub raw_first : List ℕ → Raw
raw_first bytes = raw (leb 1 (count_of bytes)) (immediate1 bytes) (be4 bytes 4)

abbrev pub raw_second : List ℕ → Raw
raw_second bytes = raw (leb 2 (count_of bytes)) (immediate2 bytes) (be4 bytes 8)

abbrev pub first_value : List ℕ → Banks → ℕ
first_value bytes s = value_of (meant (raw_first bytes)) s

abbrev pub second_value : List ℕ → Banks → ℕ
second_value bytes s = value_of (meant (raw_second bytes)) s

unfoldable pub as_branch : List ℕ → ℕ → ℕ → Banks → Stepped
as_branch bytes pc count s = exec_branch (nav.branch_of (sub_of bytes) (byte_at bytes 1 % 16)) (first_value bytes s) (second_value bytes s) pc count

unfoldable pub as_compare : List ℕ → ℕ → ℕ → Banks → Stepped
as_compare bytes pc count s = compare_of (holds_for (nav.compare_of (sub_of bytes) (byte_at bytes 2)) (first_value bytes s) (second_value bytes s)) pc count

unfoldable pub as_set : List ℕ → ℕ → Banks → After Stepped
as_set bytes pc s =
    exec_set (sub_of bytes) (nav.set_of (sub_of bytes) (byte_at bytes 3)) (meant (raw_first bytes)) (meant (raw_second bytes))
    (first_value bytes s) (second_value bytes s) pc s

abbrev pub single : End → Bool → Step
single E.Halted skipped = Halted
single E.Spent false = Continue
single E.Spent true = Skipped
single (E.Branch q) skipped = Branch q
