-- `put_arithmetic` writes the names of arithmetic. Assumes nothing.
use Rattle.nav_names.specs.Rules.{mnemonic}
use Rattle.nav_names.proofs.put_arithmetic.Goals as goal

pub returns-in-22 : goal.returns-in-22
unfolding mnemonic
returns-in-22 c = rw c.in-22.is c.put.ensures

pub returns-in-23 : goal.returns-in-23
unfolding mnemonic
returns-in-23 c = rw c.in-23.is c.put-in-23.ensures

pub returns-in-24 : goal.returns-in-24
unfolding mnemonic
returns-in-24 c = rw c.in-24.is c.put-in-24.ensures

pub returns-in-25 : goal.returns-in-25
unfolding mnemonic
returns-in-25 c = rw c.in-25.is c.put-in-25.ensures

pub returns-in-26 : goal.returns-in-26
unfolding mnemonic
returns-in-26 c = rw c.in-26.is c.put-in-26.ensures

pub returns-in-27 : goal.returns-in-27
unfolding mnemonic
returns-in-27 c = rw c.in-27.is c.put-in-27.ensures

pub returns-in-28 : goal.returns-in-28
unfolding mnemonic
returns-in-28 c = rw c.in-28.is c.put-in-28.ensures

pub returns-in-29 : goal.returns-in-29
unfolding mnemonic
returns-in-29 c = rw c.in-29.is c.put-in-29.ensures
