-- A turn adds one line, and a line is at most 118 bytes long (`lines_short`). Assumes nothing.
use Rattle.std.proofs.Common.{◌≡◌, ◌+◌, ◌*◌, ◌≤◌, length, arith}
use Rattle.laws.specs.Firsts.{blocks}
use Rattle.movie_object_list.specs.Laws.{blocks_more, line_length}
use Rattle.movie_object_list.specs.Rules.{line_text}
use Rattle.movie_object_list.proofs.Lengths.{lines_short}
use Rattle.movie_object_list.proofs.lines_length.Goals as goal
use Rattle.movie_object_list.proofs.lines_length.Goals.{After-command_length}

-- one line more
more : (c : After-command_length)
    → c.loop-i.sum + (c.prefix_length.result + c.command_length.result) ≡ length (blocks (line_text c.args.commands.now) (c.loop-i.i + 1))
more c =
    let s = c.args.commands.now in
    let l = c.loop-i in
    omega (arith, l.invariant, blocks_more (line_text s) l.i, line_length s l.i, c.prefix_length.ensures, c.command_length.ensures)

small : (c : After-command_length) → c.loop-i.sum + (c.prefix_length.result + c.command_length.result) ≤ 118 * 65536
small c =
    let s = c.args.commands.now in
    let i = c.loop-i.i in
    omega (arith, more c, c.loop-i-test.true, lines_short s (i + 1) (λ k. omega (arith, c.type_inv.commands k)) (omega (arith, c.loop-i-test.true)) (omega (arith, c.loop-i-test.true, c.requires)))

pub loop-i-init : goal.loop-i-init
unfolding blocks
loop-i-init c = omega arith

pub overflow_add-sum : goal.overflow_add-sum
overflow_add-sum c = omega (arith, small (goal.at.overflow_add-sum c).After-command_length)

pub overflow_add-sum-in-loop-i : goal.overflow_add-sum-in-loop-i
overflow_add-sum-in-loop-i c = omega (arith, small (goal.at.overflow_add-sum-in-loop-i c).After-command_length)

pub loop-i-preserved : goal.loop-i-preserved
loop-i-preserved c = more (goal.at.loop-i-preserved c).After-command_length
