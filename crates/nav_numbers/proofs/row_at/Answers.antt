-- Each arm is the row that its bits name, by computing that row. Assumes nothing.
use mathlib.Core.Path.{refl}
use native.Mathlib.Omega.{arith}
use Rattle.nav_numbers.proofs.Rows.{row_named}
use Rattle.nav_numbers.proofs.row_at.Goals as goal

pub returns-in-16 : goal.returns-in-16
returns-in-16 c = row_named 16 15 22 c.in-16.is c.row_of-in-16.ensures refl refl (omega arith)

pub returns-in-17 : goal.returns-in-17
returns-in-17 c = row_named 17 11 37 c.in-17.is c.row_of-in-17.ensures refl refl (omega arith)
