-- The numbers, from what each part promises (`numbers_told`). Assumes nothing.
use Rattle.common.specs.Rules.{be4}
use Rattle.nav_numbers.proofs.Rows.{numbers_told}
use Rattle.nav_numbers.proofs.numbers_of.Goals as goal

pub returns : goal.returns
unfolding be4
returns c =
    numbers_told c.args.bytes.now
    c.operation_at-operation.ensures
    (rw c.be32.ensures at c.operand_at-a.ensures)
    (rw c.be32-2.ensures at c.operand_at-b.ensures)
    c.from.ensures
    c.group_kind.ensures
    c.group_value.ensures
    c.from-2.ensures
    c.flag_number.ensures
    c.flag_number-2.ensures
