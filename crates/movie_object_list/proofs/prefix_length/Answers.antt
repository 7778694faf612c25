use Rattle.std.proofs.Common.{rules}
use Rattle.movie_object_list.specs.Laws.{wrote_end, prefix_short}
use Rattle.movie_object_list.proofs.prefix_length.Goals as goal

pub returns : goal.returns
returns c = wrote_end c.put_prefix.ensures (prefix_short c.args.i (search rules))
