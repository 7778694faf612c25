-- `put_play` writes the names of branch options of sub-group 2. Assumes nothing.
use Rattle.nav_names.specs.Rules.{mnemonic}
use Rattle.nav_names.proofs.put_play.Goals as goal

pub returns-in-9 : goal.returns-in-9
unfolding mnemonic
returns-in-9 c = rw c.in-9.is c.put.ensures

pub returns-in-10 : goal.returns-in-10
unfolding mnemonic
returns-in-10 c = rw c.in-10.is c.put-in-10.ensures

pub returns-in-11 : goal.returns-in-11
unfolding mnemonic
returns-in-11 c = rw c.in-11.is c.put-in-11.ensures

pub returns-in-12 : goal.returns-in-12
unfolding mnemonic
returns-in-12 c = rw c.in-12.is c.put-in-12.ensures

pub returns-in-13 : goal.returns-in-13
unfolding mnemonic
returns-in-13 c = rw c.in-13.is c.put-in-13.ensures

pub returns-in-14 : goal.returns-in-14
unfolding mnemonic
returns-in-14 c = rw c.in-14.is c.put-in-14.ensures
