-- An object whose number of commands gives the size at hand ends that much further (`next_from`). Assumes nothing.
use Rattle.std.proofs.Common.{◌+◌, arith, refl}
use Rattle.movie_object.specs.Laws.{walk_on, next_from}
use Rattle.movie_object.proofs.skip_alike.Goals as goal

pub loop-i-preserved : goal.loop-i-preserved
loop-i-preserved c =
    let w = c.loop-i.invariant.walked in
    record {
      past = omega (arith, c.loop-i.invariant.past);
      walked = walk_on w c.loop-i-test.true c.put_place.ensures (omega (arith, next_from _ c.loop-i.at {b = c.loop-i.at + 2 + 2} c.be16.ensures refl)) (omega (arith, w.inside));
    }
