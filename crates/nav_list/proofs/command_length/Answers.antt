-- `command_length` is the length of the line, which stands whole in the local array. Assumes nothing.
use mathlib.Core.Path.{refl}
use Rattle.nav_list.proofs.Lengths.{made}
use Rattle.nav_list.proofs.command_length.Goals as goal

pub returns : goal.returns
returns c = (made c.line_at.ensures c.put_line.ensures refl).0
