-- `put_command` writes the line of the bytes, which stands whole in the local array. Assumes nothing.
use mathlib.Core.Path.{refl, sym}
use native.Mathlib.Omega.{arith}
use lib.Seq.{length-take-le}
use Rattle.nav_list.proofs.Lengths.{made, line_short}
use Rattle.nav_list.proofs.put_command.Goals as goal

pub slice_bounds-line-end : goal.slice_bounds-line-end
slice_bounds-line-end c = omega (arith, (made c.line_at.ensures c.put_line-count.ensures refl).0, line_short c.line_at.ensures, c.put_line-count.auto.out)

pub slice_bounds-put-end : goal.slice_bounds-put-end
slice_bounds-put-end c = sym (length-take-le c.put_line-count.result c.put_line-count.new.out (omega (arith, (made c.line_at.ensures c.put_line-count.ensures refl).0, line_short c.line_at.ensures, c.put_line-count.auto.out)))

pub returns : goal.returns
returns c = rw (made c.line_at.ensures c.put_line-count.ensures refl).1 at c.put.ensures
