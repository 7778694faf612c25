-- A turn is `walk_on`, and what `skip_alike` passes; a head that passes the end stops the walk. Assumes nothing.
use Rattle.std.proofs.Common.{◌∙◌, sym, refl, arith}
use Rattle.movie_object.specs.Laws.{walk_on, walk_stops, place_zero, filled_none, moved_to, moved_past, left_with}
use Rattle.movie_object.specs.Rules.{next}
use Rattle.movie_object.proofs.walk.Goals as goal

pub loop-k-init : goal.loop-k-init
loop-k-init c = record { same = refl; walked = record { passed = omega arith; here = c.requires.2 ∙ sym (place_zero _); inside = omega (arith, c.requires.1, c.requires.2); filled = filled_none _ _ } }

pub returns-in_err-skip_object : goal.returns-in_err-skip_object
returns-in_err-skip_object c =
    let w = walk_stops c.loop-k.invariant.walked c.loop-k-test.true (moved_past _ (next c.loop-k.r.buf.now c.loop-k.r.pos) _ c.skip_object.ensures.answer c.in_err-skip_object.was) in
    rw (left_with _ c.from_residual.ensures.1, ← c.loop-k.invariant.same) w

pub be16-commands-requires : goal.be16-commands-requires
unfolding next
be16-commands-requires c = rw c.skip_object.ensures.same (omega (arith, moved_to _ _ _ c.skip_object.ensures.answer c.in_ok-skip_object.was))

pub skip_alike-at-requires : goal.skip_alike-at-requires
skip_alike-at-requires c =
    let s = c.skip_object.ensures.same in
    let here = c.in_ok-skip_object.ensures.here in
    let w = walk_on c.loop-k.invariant.walked c.loop-k-test.true c.put_place.ensures here (rw here (moved_to _ _ _ c.skip_object.ensures.answer c.in_ok-skip_object.was)) in
    rw s (rw c.loop-k.invariant.same c.requires.0, w)
