-- `step` is a run of one step. Assumes nothing.
use Rattle.vm.specs.Rules.{step_answer}
use Rattle.vm.proofs.Laws.{done, steps_once}
use Rattle.vm.proofs.HdmvVm.step.Goals as goal

pub returns : goal.returns
unfolding step_answer
returns c = done _ _ c.check.ensures _ c.in_ok-check.was (steps_once _ _ _ _ c.run_on-ran.ensures c.single_step.ensures)
