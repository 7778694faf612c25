use Rattle.vm.specs.Rules.{run_answer}
use Rattle.vm.proofs.Laws.{done, runs_plainly}
use Rattle.vm.proofs.HdmvVm.run.Goals as goal

pub returns : goal.returns
unfolding run_answer
returns c = done _ _ c.check.ensures _ c.in_ok-check.was (runs_plainly _ _ c.run_on-ran.ensures c.plain_step.ensures)
