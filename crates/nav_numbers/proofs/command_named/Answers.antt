-- Each field as the rule names it; the promises are put in from the last call to the first. Assumes nothing.
use Rattle.nav_numbers.specs.Rules.{command_named}
use Rattle.nav_numbers.proofs.command_named.Goals as goal

pub returns : goal.returns
unfolding command_named
returns c = rw (c.number_at-13.ensures, c.number_at-12.ensures, c.low_byte-2.ensures, c.number_at-11.ensures, c.low_byte.ensures, c.number_at-10.ensures, c.operand_named-operand2.ensures, c.number_at-9.ensures, c.number_at-8.ensures, c.operand_named-operand1.ensures, c.number_at-7.ensures, c.number_at-6.ensures, c.operation_named-operation.ensures, c.number_at-5.ensures, c.number_at-4.ensures, c.number_at-3.ensures, c.group_named-group.ensures, c.number_at-2.ensures, c.number_at.ensures)
