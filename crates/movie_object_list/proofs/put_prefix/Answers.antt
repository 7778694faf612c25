use Rattle.movie_object_list.specs.Rules.{prefix_text}
use Rattle.text.specs.Laws.{then}
use Rattle.movie_object_list.proofs.put_prefix.Goals as goal

pub returns : goal.returns
unfolding prefix_text
returns c = then (then c.put-at.ensures c.put_right-at.ensures) c.put.ensures
