-- `put_bitwise` writes the names of bits and shifts. Assumes nothing.
use Rattle.nav_names.specs.Rules.{mnemonic}
use Rattle.nav_names.proofs.put_bitwise.Goals as goal

pub returns-in-30 : goal.returns-in-30
unfolding mnemonic
returns-in-30 c = rw c.in-30.is c.put.ensures

pub returns-in-31 : goal.returns-in-31
unfolding mnemonic
returns-in-31 c = rw c.in-31.is c.put-in-31.ensures

pub returns-in-32 : goal.returns-in-32
unfolding mnemonic
returns-in-32 c = rw c.in-32.is c.put-in-32.ensures

pub returns-in-33 : goal.returns-in-33
unfolding mnemonic
returns-in-33 c = rw c.in-33.is c.put-in-33.ensures

pub returns-in-34 : goal.returns-in-34
unfolding mnemonic
returns-in-34 c = rw c.in-34.is c.put-in-34.ensures

pub returns-in-35 : goal.returns-in-35
unfolding mnemonic
returns-in-35 c = rw c.in-35.is c.put-in-35.ensures

pub returns-in-36 : goal.returns-in-36
unfolding mnemonic
returns-in-36 c = rw c.in-36.is c.put-in-36.ensures
