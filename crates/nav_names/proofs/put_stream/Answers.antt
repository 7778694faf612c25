-- `put_stream` writes the names of streams and buttons. Assumes nothing.
use Rattle.nav_names.specs.Rules.{mnemonic}
use Rattle.nav_names.proofs.put_stream.Goals as goal

pub returns-in-37 : goal.returns-in-37
unfolding mnemonic
returns-in-37 c = rw c.in-37.is c.put.ensures

pub returns-in-38 : goal.returns-in-38
unfolding mnemonic
returns-in-38 c = rw c.in-38.is c.put-in-38.ensures

pub returns-in-39 : goal.returns-in-39
unfolding mnemonic
returns-in-39 c = rw c.in-39.is c.put-in-39.ensures

pub returns-in-40 : goal.returns-in-40
unfolding mnemonic
returns-in-40 c = rw c.in-40.is c.put-in-40.ensures

pub returns-in-41 : goal.returns-in-41
unfolding mnemonic
returns-in-41 c = rw c.in-41.is c.put-in-41.ensures

pub returns-in-42 : goal.returns-in-42
unfolding mnemonic
returns-in-42 c = rw c.in-42.is c.put-in-42.ensures
