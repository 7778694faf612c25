-- `longest_line`: the theorem is that of Lengths. Assumes nothing.
use Rattle.nav_list.proofs.Lengths.{longest}
use Rattle.nav_list.proofs.longest_line.Goals as goal

pub returns : goal.returns
returns c = longest
