use Rattle.std.proofs.Common.{rules}
use Rattle.movie_object_list.specs.Laws.{wrote_end, heading_short}
use Rattle.movie_object_list.proofs.heading_length.Goals as goal

pub returns : goal.returns
returns c = wrote_end c.put_heading.ensures (heading_short c.args.n c.args.object (search rules) (search rules) (search rules) (search rules) (search rules))
