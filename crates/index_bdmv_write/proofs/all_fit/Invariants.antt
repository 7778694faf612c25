use Rattle.std.proofs.Common.{◌≡◌, true}
use Rattle.laws.specs.Firsts.{all}
use Rattle.index_bdmv_write.specs.Rules.{entry_fits}
use Rattle.index_bdmv_write.proofs.all_fit.Given as goal

-- the entries passed fit
abbrev pub invariant-loop-k : goal.invariant-loop-k
invariant-loop-k l = all (entry_fits l.entries.kinds.now l.entries.playbacks.now l.entries.names.now) l.k ≡ true
