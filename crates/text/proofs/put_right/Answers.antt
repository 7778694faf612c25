-- `put_right` writes the blanks that are missing before the number. Assumes nothing.
use Rattle.std.proofs.Common.{◌≡◌, ◌-◌, length, arith}
use Rattle.text.specs.Laws.{then}
use Rattle.text.specs.Rules.{right_in, numeral}
use Rattle.text.proofs.put_right.Goals as goal

pub returns : goal.returns
unfolding right_in
returns c =
    let n : length (numeral 10 c.from.result) ≡ length (numeral 10 c.args.n) = cc in
    let e : c.saturating_sub-missing.result ≡ c.args.width - length (numeral 10 c.args.n) = omega arith in
    rw (← e) (then c.put_blanks-p.ensures c.put_decimal.ensures)
