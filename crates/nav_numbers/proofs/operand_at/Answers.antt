-- Kind and value, from the word or 0 (`operand_given`). Assumes nothing.
use Rattle.nav_numbers.proofs.Rows.{operand_given}
use Rattle.nav_numbers.proofs.operand_at.Goals as goal

pub returns : goal.returns
returns c = operand_given c.args.there c.args.immediate c.args.word c.either-given.ensures c.operand_kind-kind.ensures c.operand_value-value.ensures
