-- The header, then the count, then the walk over the heads decides. Assumes nothing.
use Rattle.std.proofs.Common.{◌∙◌, sym}
use Rattle.common.specs.Laws.{headed}
use Rattle.movie_object.specs.Laws.{verdict_header, verdict_uncounted, counted, walked_refused, walked_heads, left_with}
use Rattle.movie_object.proofs.walk_places.Goals as goal
use Rattle.movie_object.proofs.walk_places.Goals.{After-read_count}

pub returns-in_err-header : goal.returns-in_err-header
returns-in_err-header c = walked_refused _ _ _ _ (left_with _ c.from_residual.ensures.1) (verdict_header _ _ (sym c.header.ensures ∙ c.in_err-header.was))

pub returns-in_err-count : goal.returns-in_err-count
returns-in_err-count c =
    walked_refused _ _ _ _ (left_with _ c.from_residual-in_err-count.ensures.1)
    (verdict_uncounted _ (sym c.header.ensures ∙ c.in_ok-header.was) (rw c.new-r.ensures.0 at c.read_count.ensures.read) c.in_err-count.was).0

pub walk-requires : goal.walk-requires
walk-requires c =
    let r = c.new-r.ensures.0 in
    let n = counted _ (rw r at c.read_count.ensures.read) c.in_ok-count.was in
    rw (c.read_count.ensures.same, r) ((headed _ _ (sym c.header.ensures ∙ c.in_ok-header.was)).short, n.inside, c.in_ok-count.ensures.here)

pub returns : goal.returns
returns c =
    let r = c.new-r.ensures.0 in
    let n = counted _ (rw r at c.read_count.ensures.read) c.in_ok-count.was in
    walked_heads _ _ _ _ (sym c.header.ensures ∙ c.in_ok-header.was) n (rw (c.read_count.ensures.same, r) at c.walk.ensures)
