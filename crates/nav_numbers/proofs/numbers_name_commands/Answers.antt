-- The two halves are `command_named_back` and `numbers_are`. Assumes nothing.
use Rattle.nav_numbers.proofs.Laws.{command_named_back, numbers_are}
use Rattle.nav_numbers.proofs.numbers_name_commands.Goals as goal

pub returns : goal.returns
returns c = (command_named_back, numbers_are)
