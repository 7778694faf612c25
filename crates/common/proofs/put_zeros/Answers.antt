-- The part of the buffer that is filled is a run of zeros laid over it (`put_mid_over`). Assumes nothing.
use Rattle.std.proofs.Common.{◌≡◌, ◌∙◌, ap, arith, ℕ, ◌+◌, ◌-◌, length, take, drop, replicate, length-drop, length-take-le}
use Rattle.std.proofs.lemmas.List.{length-replicate}
use Rattle.laws.specs.Over.{put_mid_over}
use Rattle.common.proofs.put_zeros.Goals as goal

pub returns : goal.returns
returns c =
    let k = c.args.at + c.args.n - c.args.at in
    let rest = drop c.args.at c.args.out.now in
    let part : length (take k rest) ≡ c.args.n = length-take-le k rest (omega (arith, length-drop c.args.at c.args.out.now)) ∙ omega arith in
    put_mid_over _ _ _ _ _ (c.fill.ensures.after (λ y e. e) ∙ ap (λ (i : ℕ). replicate i 0) part) (omega (arith, length-replicate {A = ℕ} c.args.n 0))
