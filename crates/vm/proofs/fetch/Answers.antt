use Rattle.std.proofs.Common.{◌≡◌, ◌∙◌, ◌+◌, ◌-◌, arith}
use Rattle.vm.proofs.Laws.{twelve}
use Rattle.vm.proofs.fetch.Goals as goal

pub returns : goal.returns
returns c =
    let n : c.args.at + 12 - c.args.at ≡ 12 = omega arith in
    (rw n at c.copy_from_slice.ensures.after) ∙ twelve _ _ c.requires
