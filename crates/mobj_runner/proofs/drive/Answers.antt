use Rattle.std.proofs.Common.{◌∙◌}
use Rattle.mobj_runner.specs.Laws.{drive_stop}
use Rattle.mobj_runner.proofs.drive.Goals as goal

pub returns-in-Stop-clause-drove : goal.returns-in-Stop-clause-drove
returns-in-Stop-clause-drove c = drive_stop _ _ _ _ _ _ _ _ (rw c.in-Stop.is at c.one_turn.ensures.drove) ∙ c.loop-next.invariant.2
