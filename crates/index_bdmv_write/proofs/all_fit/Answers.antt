-- The first entry that does not fit decides (`all_not`). Assumes nothing.
use Rattle.std.proofs.Common.{sym, ◌∙◌}
use Rattle.laws.specs.Firsts.{all_not}
use Rattle.index_bdmv_write.specs.Rules.{name_given}
use Rattle.index_bdmv_write.proofs.all_fit.Goals as goal

pub returns-then-not-entry_fits : goal.returns-then-not-entry_fits
unfolding name_given
returns-then-not-entry_fits c = sym (all_not _ c.loop-k.k _ c.loop-k-test.true (sym c.entry_fits.ensures ∙ c.if-not-entry_fits.true))
