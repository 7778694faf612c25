-- Each field's numbers; the promises are put in from the last call to the first. Assumes nothing.
use Rattle.nav_numbers.specs.Rules.{command_numbers}
use Rattle.nav_numbers.proofs.command_numbers.Goals as goal

pub returns : goal.returns
unfolding command_numbers
returns c =
    rw (
      c.operation_number.ensures,
      c.flag_number-2.ensures,
      c.flag_number.ensures,
      c.from-2.ensures,
      c.from.ensures,
      c.operand_pair-b.ensures.0,
      c.operand_pair-a.ensures.0,
      c.unknown_of-unknown.ensures.0,
      c.group_pair-group.ensures,
    )
