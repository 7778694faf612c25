-- A turn is `blocks_step`. Assumes nothing.
use Rattle.std.proofs.Common.{arith}
use Rattle.laws.specs.Firsts.{blocks}
use Rattle.movie_object_list.specs.Laws.{blocks_step}
use Rattle.movie_object_list.specs.Rules.{line_text}
use Rattle.text.specs.Laws.{nothing, then}
use Rattle.movie_object_list.proofs.put_lines.Goals as goal

pub loop-i-init : goal.loop-i-init
unfolding blocks
loop-i-init c = nothing (omega arith) (omega arith)

pub loop-i-preserved : goal.loop-i-preserved
loop-i-preserved c = blocks_step (line_text c.args.commands.now) c.loop-i.i c.loop-i.invariant (then c.put_prefix-p.ensures c.put_command-p.ensures)
