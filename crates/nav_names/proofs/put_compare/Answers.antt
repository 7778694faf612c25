-- `put_compare` writes the names of compares. Assumes nothing.
use Rattle.nav_names.specs.Rules.{mnemonic}
use Rattle.nav_names.proofs.put_compare.Goals as goal

pub returns-in-15 : goal.returns-in-15
unfolding mnemonic
returns-in-15 c = rw c.in-15.is c.put.ensures

pub returns-in-16 : goal.returns-in-16
unfolding mnemonic
returns-in-16 c = rw c.in-16.is c.put-in-16.ensures

pub returns-in-17 : goal.returns-in-17
unfolding mnemonic
returns-in-17 c = rw c.in-17.is c.put-in-17.ensures

pub returns-in-18 : goal.returns-in-18
unfolding mnemonic
returns-in-18 c = rw c.in-18.is c.put-in-18.ensures

pub returns-in-19 : goal.returns-in-19
unfolding mnemonic
returns-in-19 c = rw c.in-19.is c.put-in-19.ensures

pub returns-in-20 : goal.returns-in-20
unfolding mnemonic
returns-in-20 c = rw c.in-20.is c.put-in-20.ensures

pub returns-in-21 : goal.returns-in-21
unfolding mnemonic
returns-in-21 c = rw c.in-21.is c.put-in-21.ensures
