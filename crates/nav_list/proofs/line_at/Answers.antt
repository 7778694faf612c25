-- `line_at` reads a line's numbers from the twelve bytes at a place. Assumes nothing.
use Prim.Native.Nat.{◌+◌}
use native.Mathlib.Omega.{arith}
use Rattle.common.specs.Rules.{be4}
use Rattle.nav_list.proofs.Lines.{lines_at}
use Rattle.nav_list.proofs.line_at.Goals as goal

pub returns : goal.returns
unfolding be4
returns c = lines_at c.args.file.now c.args.from c.operation_at-head.ensures (rw c.be32.ensures at c.operand_at-first.ensures) (rw c.be32-2.ensures at c.operand_at-second.ensures) (omega (arith, c.type_inv.file (c.args.from + 2))) (omega (arith, c.type_inv.file (c.args.from + 3))) (omega (arith, c.operand_at-first.type_inv)) (omega (arith, c.operand_at-second.type_inv))
