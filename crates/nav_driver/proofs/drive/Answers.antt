use Rattle.std.proofs.Common.{◌∙◌}
use Rattle.nav_driver.specs.Laws.{titles_stop}
use Rattle.nav_driver.proofs.drive.Goals as goal

pub returns-in-Stop-clause-drove : goal.returns-in-Stop-clause-drove
returns-in-Stop-clause-drove c = titles_stop _ _ _ _ _ _ _ _ _ _ (rw c.in-Stop.is at c.one_turn.ensures.drove) ∙ c.loop-next.invariant.3
