use Rattle.std.proofs.Common.{◌≡◌, ◌+◌, ◌*◌}
use Rattle.error.specs.Rules.{fine}
use Rattle.index_bdmv.specs.Rules.{entries_verdict}
use Rattle.index_bdmv.proofs.parse_objects.Given as goal

abbrev pub invariant-loop-k : goal.invariant-loop-k
invariant-loop-k l = (l.r.buf ≡ l.fn.r.buf) × (l.r.pos ≡ l.fn.r.pos + 12 * l._k) × (entries_verdict l.fn.r.buf.now l.fn.r.pos l._k ≡ fine)
