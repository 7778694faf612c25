use mathlib.Core.Path.{◌∙◌}
use Rattle.std.proofs.lemmas.Bool.{not-true}
use Rattle.registers.proofs.Laws.{sets_status}
use Rattle.registers.proofs.Banks.set.Goals as goal

pub returns-then-index-lt128-clause-set : goal.returns-then-index-lt128-clause-set
returns-then-index-lt128-clause-set c =
    rw (c.if-a.true, not-true _ c.if-not-a.true)
    (c.set_register-then-index-lt128.ensures.set ∙ sets_status _ _ _ c.index_of-index.ensures c.if-a-lt2147483648.false c.if-index-lt128.true)
