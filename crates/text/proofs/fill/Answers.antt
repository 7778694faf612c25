-- `fill` lays a numeral over the room from its last digit on, by the law of such a loop for every base. Assumes nothing.
use native.Mathlib.Omega.{arith}
use Rattle.text.proofs.Laws.{fill_starts, fill_on, fill_ends}
use Rattle.text.proofs.fill.Goals as goal

pub loop-k-init : goal.loop-k-init
loop-k-init c = fill_starts c.args.base c.args.n c.args.out.now c.args.at c.args.count (omega arith) (omega arith) c.requires.count_value

pub loop-k-preserved : goal.loop-k-preserved
loop-k-preserved c = fill_on _ c.loop-k-test.true c.loop-k.invariant c.glyph.ensures

pub returns : goal.returns
returns c = fill_ends c.loop-k-test.false c.loop-k.invariant
