-- How long a line can be. Assumes nothing.
use Rattle.std.specs.Prelude.{List, ℕ, ◌≤◌, length}
use Rattle.nav_command.specs.Rules.{command_of}
use Rattle.nav_encode.specs.Rules.{Twelve}
use Rattle.nav_list.specs.Rules.{line_of}

-- The line of twelve bytes has at most 102 bytes: an unknown code and two secondary registers of the longest name.
abbrev pub LongestLine : Type 0
LongestLine = (b : List ℕ) → Twelve b → length (line_of (command_of b)) ≤ 102
