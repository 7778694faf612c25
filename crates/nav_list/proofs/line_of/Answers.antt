-- `line_of` gives a decoded command's numbers, part by part. Assumes nothing.
use native.Mathlib.Omega.{arith}
use Rattle.nav_list.proofs.Lines.{lines}
use Rattle.nav_list.proofs.line_of.Goals as goal

pub returns : goal.returns
returns c = lines c.args.command c.operation_number.ensures c.unknown_of-unknown.ensures.0 c.operand_pair.ensures.0 c.operand_pair-2.ensures.0 (record { sub = rw c.unknown_of-unknown.ensures.0 at c.unknown_of-unknown.ensures.1; code = rw c.unknown_of-unknown.ensures.0 at c.unknown_of-unknown.ensures.2; first = c.operand_pair.ensures.1; second = c.operand_pair-2.ensures.1 }) (omega (arith, c.operand_pair.type_inv)) (omega (arith, c.operand_pair-2.type_inv))
