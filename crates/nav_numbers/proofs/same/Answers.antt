-- The places passed are alike; the first that is not decides. Assumes nothing.
use Rattle.std.proofs.Common.{sym, ◌∙◌, arith}
use borrow.Author.Tests.{eq-eqb, ne_eqb}
use Rattle.laws.specs.Firsts.{all_none, all_more, all_not}
use Rattle.nav_numbers.proofs.same.Goals as goal

pub loop-k-init : goal.loop-k-init
loop-k-init c = all_none _

pub loop-k-preserved : goal.loop-k-preserved
loop-k-preserved c = all_more _ _ c.loop-k.invariant (eq-eqb _ _ (c.if-number-number_at.false ∙ c.number_at.ensures))

pub returns-then-number-number_at : goal.returns-then-number-number_at
returns-then-number-number_at c = sym (all_not _ c.loop-k.k 13 (omega arith) (ne_eqb _ _ (λ e. c.if-number-number_at.true (e ∙ sym c.number_at.ensures))))
