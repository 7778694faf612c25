-- The pc stays below a bound of 32 bits (`run_within`); the turn is the definition with its parts put in. Assumes nothing.
use Rattle.std.proofs.Common.{ap, arith, rules}
use Rattle.vm.specs.declared.Ran.{Ran}
use Rattle.vm.specs.Laws.{run_within}
use Rattle.vm.specs.Rules.{After}
use Rattle.registers.specs.Lent.{held}
use Rattle.mobj_runner.specs.Rules.{joined, turn_of}
use Rattle.mobj_runner.proofs.one_turn.Goals as goal

pub overflow_cast-here : goal.overflow_cast-here
overflow_cast-here c =
    let stays = run_within c.commands-commands.result.now 4294967295 c.args.steps 0 c.args.s.pc (held c.args.banks.now) (omega (arith, c.commands-commands.ensures.few)) (search rules) in
    rw (ap (λ (t : After Ran). t.answer.pc) c.run_commands-ran.ensures.left) (record { fits = omega arith })

pub returns-clause-drove : goal.returns-clause-drove
unfolding turn_of
returns-clause-drove c = rw (← c.commands-commands.ensures.part, ← c.run_commands-ran.ensures.left, ← c.count.ensures, ← c.what_follows.ensures) (ap (joined _) c.act.ensures)
