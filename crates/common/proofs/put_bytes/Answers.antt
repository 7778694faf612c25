-- A turn lays one byte more of the source over the buffer (`over_grow`). Assumes nothing.
use Rattle.std.proofs.Common.{◌≡◌, [], ◌∷◌, ◌++◌, ◌+◌, get_or, take, sym, add-one, arith}
use Rattle.std.proofs.Math.Seq.{take-suc, length-take-le}
use Rattle.laws.specs.Over.{over_nil, over_grow}
use Rattle.common.proofs.put_bytes.Goals as goal

pub loop-i-init : goal.loop-i-init
loop-i-init c = sym (over_nil _ _)

pub loop-i-preserved : goal.loop-i-preserved
loop-i-preserved c =
    let s = c.args.src.now in
    let i = c.loop-i.i in
    let more : take (i + 1) s ≡ take i s ++ (get_or s i 0 ∷ []) = rw (add-one i) (take-suc s i 0 (omega arith)) in
    over_grow _ _ _ _ _ _ _ c.loop-i.invariant (length-take-le i s (omega arith)) (omega arith) more
