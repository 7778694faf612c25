use Rattle.nav_numbers.proofs.Rows.{operand_kind}
use Rattle.nav_numbers.proofs.operand_kind.Goals as goal

pub returns : goal.returns
returns c = rw (c.either.ensures, c.either-operand.ensures, c.either-register.ensures, c.either-status.ensures) (operand_kind c.args.there c.args.immediate c.args.word)
