-- The heading, and then the lines of the head's commands, which are there. Assumes nothing.
use Rattle.std.proofs.Common.{sym}
use Rattle.movie_object_list.specs.Laws.{lines_there}
use Rattle.movie_object_list.specs.Rules.{object_text}
use Rattle.text.specs.Laws.{then}
use Rattle.movie_object_list.proofs.ObjectText.put.Goals as goal

pub put_lines-requires : goal.put_lines-requires
put_lines-requires c = (lines_there c.args.self.file.now c.args.self.head c.head_at-object.ensures c.part_at-commands.ensures.part c.requires)

pub returns : goal.returns
unfolding object_text
returns c = rw (sym c.head_at-object.ensures, sym c.part_at-commands.ensures.part) (then c.put_heading-at.ensures c.put_lines.ensures)
