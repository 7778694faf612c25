-- `decode` gives the fields that the rules read in the bytes; its callees' promises are put in from the last to the first. Assumes nothing.
use Rattle.common.specs.Rules.{be4}
use Rattle.nav_command.specs.Rules.{command_of}
use Rattle.nav_command.proofs.DecodedCommand.decode.Goals as goal

pub returns : goal.returns
unfolding command_of be4
returns c =
    rw (
      c.decode-operand2.ensures,
      c.be32-2.ensures,
      c.decode-operand1.ensures,
      c.be32.ensures,
      c.operation_of-operation.ensures,
      c.from_bits-group.ensures,
    )
