use Rattle.std.specs.Prelude.{◌≡◌, ◌-◌}
use Rattle.registers.specs.Lent.{held, Same}
use Rattle.registers.specs.Rules.{banks}
use Rattle.vm.specs.Rules.{run_from, run_of}
use Rattle.vm.proofs.run_on.Given as goal

-- the run that is left is the run that was begun
abbrev pub invariant-loop-steps : goal.invariant-loop-steps
invariant-loop-steps l =
    record {
      same : Same l.initial.banks l.banks;
      run : run_from l.commands (l.budget - l.steps) l.steps l.skipped l.at (held l.banks) ≡ run_of l.commands l.budget 0 l.fn.pc (banks l.fn.gpr l.fn.psr);
    }
