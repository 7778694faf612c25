-- `put_jump` writes the names of branch options of sub-group 1. Assumes nothing.
use Rattle.nav_names.specs.Rules.{mnemonic}
use Rattle.nav_names.proofs.put_jump.Goals as goal

pub returns-in-4 : goal.returns-in-4
unfolding mnemonic
returns-in-4 c = rw c.in-4.is c.put.ensures

pub returns-in-5 : goal.returns-in-5
unfolding mnemonic
returns-in-5 c = rw c.in-5.is c.put-in-5.ensures

pub returns-in-6 : goal.returns-in-6
unfolding mnemonic
returns-in-6 c = rw c.in-6.is c.put-in-6.ensures

pub returns-in-7 : goal.returns-in-7
unfolding mnemonic
returns-in-7 c = rw c.in-7.is c.put-in-7.ensures

pub returns-in-8 : goal.returns-in-8
unfolding mnemonic
returns-in-8 c = rw c.in-8.is c.put-in-8.ensures
