-- A turn reads one number more. Assumes nothing.
use Rattle.std.proofs.Common.{◌<◌, ◌≢◌, ◌∙◌, length, arith, length-set, get_or-set_other, get_or-set_same, below_more}
use Rattle.session.proofs.frame_at.Goals as goal

pub loop-i-preserved : goal.loop-i-preserved
loop-i-preserved g c =
    let room : c.loop-i.i < length c.loop-i.number-items = omega arith in
    record {
      long = simp length-set c.loop-i.invariant.long;
      read = below_more _ _
          (λ k h. let ne : k ≢ c.loop-i.i = omega arith in rw get_or-set_other (c.loop-i.invariant.read k h))
          (get_or-set_same c.loop-i.number-items c.loop-i.i c.number_at.result 0 room ∙ c.number_at.ensures);
    }
