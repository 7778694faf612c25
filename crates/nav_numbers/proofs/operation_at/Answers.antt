-- The place of the code that the group picks, in the row that group and sub-group name (`operation_place`). Assumes nothing.
use Prim.Native.Nat.{◌/◌, ◌%◌}
use native.Mathlib.Omega.{arith}
use Rattle.nav_numbers.proofs.Rows.{operation_place}
use Rattle.nav_numbers.proofs.operation_at.Goals as goal

pub returns : goal.returns
returns c =
    rw (
      c.placed.ensures,
      c.either-at.ensures,
      c.from-4.ensures,
      c.either-after.ensures,
      c.from_one-2.ensures,
      c.from_one.ensures,
      c.either-code.ensures,
      c.from-3.ensures,
      c.either-other.ensures,
      c.from-2.ensures,
      c.from.ensures,
      c.from-sub.ensures,
    )
    (operation_place (c.args.low % 8) c.args.option c.args.compare c.args.set c.row_at-row.result (omega arith) (omega arith) (c.args.low / 8) c.row_at-row.ensures)
