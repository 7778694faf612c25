use Rattle.std.proofs.Common.{◌≡◌, length}
use Rattle.laws.specs.Firsts.{blocks}
use Rattle.laws.specs.Over.{over}
use Rattle.index_bdmv_write.specs.Laws.{lent}
use Rattle.index_bdmv_write.specs.Rules.{title_bytes}
use Rattle.index_bdmv_write.proofs.put_titles.Given as goal

-- after k titles
abbrev pub invariant-loop-k : goal.invariant-loop-k
invariant-loop-k l = (length l.out ≡ length l.fn.out) × (l.out ≡ over l.fn.out 108 (blocks (title_bytes (lent l.entries)) l.k))
