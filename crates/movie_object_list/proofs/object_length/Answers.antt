-- The heading and the lines are the whole text, which is short (`object_short`). Assumes nothing.
use Rattle.std.proofs.Common.{◌≡◌, ◌+◌, length, sym, arith}
use Rattle.common.specs.Laws.{be2_below}
use Rattle.movie_object_list.specs.Laws.{lines_there, text_length}
use Rattle.movie_object_list.specs.Rules.{text_at}
use Rattle.movie_object_list.proofs.Lengths.{object_short}
use Rattle.movie_object_list.proofs.object_length.Goals as goal
use Rattle.movie_object_list.proofs.object_length.Goals.{After-lines_length}

whole : (c : After-lines_length) → c.heading_length.result + c.lines_length.result ≡ length (text_at c.args.file.now c.args.head c.args.n)
whole c =
    rw (sym c.head_at-object.ensures, sym c.part_at-commands.ensures.part)
    (omega (arith, text_length c.args.n c.head_at-object.result c.part_at-commands.result.now, c.heading_length.ensures, c.lines_length.ensures))

pub lines_length-requires : goal.lines_length-requires
lines_length-requires c = lines_there c.args.file.now c.args.head c.head_at-object.ensures c.part_at-commands.ensures.part c.requires

pub overflow_add-result : goal.overflow_add-result
overflow_add-result c = let a = c.args in omega (arith, whole (goal.at.overflow_add-result c).After-lines_length, object_short a.file.now a.head a.n (λ i. omega (arith, c.type_inv.file i)) (omega arith) c.requires, be2_below a.file.now (a.head + 2) (λ i. omega (arith, c.type_inv.file i)))

pub returns : goal.returns
returns c = whole (goal.at.returns c).After-lines_length
