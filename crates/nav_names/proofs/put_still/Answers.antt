-- `put_still` writes the names of pop-ups and stills. Assumes nothing.
use native.Mathlib.Omega.{arith}
use Rattle.text.specs.Laws.{nothing}
use Rattle.nav_names.specs.Rules.{mnemonic}
use Rattle.nav_names.proofs.Laws.{above, no_mnemonic}
use Rattle.nav_names.proofs.put_still.Goals as goal

pub returns-in-43 : goal.returns-in-43
unfolding mnemonic
returns-in-43 c = rw c.in-43.is c.put.ensures

pub returns-in-44 : goal.returns-in-44
unfolding mnemonic
returns-in-44 c = rw c.in-44.is c.put-in-44.ensures

pub returns-in-45 : goal.returns-in-45
unfolding mnemonic
returns-in-45 c = rw c.in-45.is c.put-in-45.ensures

pub returns-in-46 : goal.returns-in-46
unfolding mnemonic
returns-in-46 c = rw c.in-46.is c.put-in-46.ensures

pub returns-in-47 : goal.returns-in-47
unfolding mnemonic
returns-in-47 c = rw c.in-47.is c.put-in-47.ensures

pub returns-in_default : goal.returns-in_default
returns-in_default c = rw (no_mnemonic c.args.number (above 43 5 c.args.number c.in_default.in_default-own.rest c.requires)) (nothing (omega arith) (omega arith))
