-- `run_on` ends as the rules do. Assumes nothing.
use mathlib.Core.Path.{◌∙◌}
use native.Mathlib.Omega.{arith}
use borrow.Author.Rules.{rules}
use Rattle.registers.specs.Lent.{held}
use Rattle.vm.proofs.Laws.{begins, spent, goes_on, ends}
use Rattle.vm.proofs.run_on.Goals as goal

pub loop-steps-init : goal.loop-steps-init
loop-steps-init c = record { same = search rules; run = begins _ _ _ _ }

pub loop-steps-preserved : goal.loop-steps-preserved
loop-steps-preserved c =
    record {
      same = search rules;
      run =
          goes_on _ _ _ _ c.loop-steps-test.true c.obey-stepped.ensures.left c.what_next.ensures c.in-Go.is
          ∙ c.loop-steps.invariant.run;
    }

pub returns-in-Stop : goal.returns-in-Stop
returns-in-Stop c =
    let left = ends _ _ _ _ c.loop-steps-test.true c.obey-stepped.ensures.left c.what_next.ensures c.in-Stop.is ∙ c.loop-steps.invariant.run in
    search (rules, left)

pub returns : goal.returns
returns c =
    let left = spent c.args.commands.now c.loop-steps.at (held c.loop-steps.banks) c.loop-steps.skipped (omega arith) ∙ c.loop-steps.invariant.run in
    search (rules, left)
