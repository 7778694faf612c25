-- The part that is written to is a run laid over the room, as stores one after the other are. Assumes nothing.
use Rattle.std.proofs.Common.{◌∙◌, sym, arith}
use Rattle.laws.specs.Over.{put_mid_over, sets_over}
use Rattle.text.proofs.copy.Goals as goal

pub returns : goal.returns
returns c =
    put_mid_over _ _ _ _ _ c.copy_from_slice.ensures.after (omega arith)
    ∙ sym (sets_over c.args.bytes.now c.args.out.now c.args.at c.requires)
