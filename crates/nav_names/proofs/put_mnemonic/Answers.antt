-- `put_mnemonic` writes the name of a number on the sheet, and nothing off it. Assumes nothing.
use Rattle.std.proofs.Common.{arith}
use Rattle.nav_names.specs.Rules.{mnemonic}
use Rattle.text.specs.Laws.{nothing}
use Rattle.nav_names.proofs.put_mnemonic.Goals as goal

pub returns-then-number-eq0 : goal.returns-then-number-eq0
unfolding mnemonic
returns-then-number-eq0 c = rw c.if-number-eq0.true (nothing (omega arith) (omega arith))
