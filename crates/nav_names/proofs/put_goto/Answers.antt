-- `put_goto` writes the names of branch options of sub-group 0. Assumes nothing.
use Rattle.nav_names.specs.Rules.{mnemonic}
use Rattle.nav_names.proofs.put_goto.Goals as goal

pub returns-in-1 : goal.returns-in-1
unfolding mnemonic
returns-in-1 c = rw c.in-1.is c.put.ensures

pub returns-in-2 : goal.returns-in-2
unfolding mnemonic
returns-in-2 c = rw c.in-2.is c.put-in-2.ensures

pub returns-in-3 : goal.returns-in-3
unfolding mnemonic
returns-in-3 c = rw c.in-3.is c.put-in-3.ensures
