-- The numbers of what is named, held to the numbers given. Assumes nothing.
use Rattle.nav_numbers.specs.Rules.{is_command}
use Rattle.nav_numbers.proofs.is_command.Goals as goal

pub returns : goal.returns
unfolding is_command
returns c = rw (c.same.ensures, c.command_numbers-made.ensures, c.command_named.ensures)
