use Rattle.std.proofs.Common.{sym}
use Rattle.movie_object_list.specs.Rules.{heading_text}
use Rattle.text.specs.Laws.{then}
use Rattle.movie_object_list.proofs.put_heading.Goals as goal

pub returns : goal.returns
unfolding heading_text
returns c =
    rw (sym c.from.ensures, sym c.from-2.ensures, sym c.from-3.ensures)
    (then (then (then (then (then (then (then (then (then c.put-at.ensures c.put_decimal-at.ensures) c.put-at-2.ensures) c.put_decimal-at-2.ensures) c.put-at-3.ensures) c.put_decimal-at-3.ensures) c.put-at-4.ensures) c.put_decimal-at-4.ensures) c.put-at-5.ensures) c.put_count.ensures)
