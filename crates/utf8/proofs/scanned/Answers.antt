-- The bytes that are left decide as all of them do; where the scan stops, it is refused. Assumes nothing.
use Rattle.std.proofs.Common.{◌≡◌, ◌∙◌, ◌+◌, sym, ap, arith, length, drop, Some}
use Rattle.utf8.specs.Rules.{scan_of}
use Rattle.utf8.specs.Laws.{refused, goes_on, ends}
use Rattle.utf8.proofs.scanned.Goals as goal

pub returns-in_err-scan : goal.returns-in_err-scan
returns-in_err-scan c =
    let rest = drop (c.loop-b.b-index + 1) c.args.s.now in
    rw c.from_residual.ensures
    (sym (refused rest)
    ∙ ap (λ u. scan_of u rest) (sym c.in_err-scan.was ∙ c.step.ensures)
    ∙ goes_on _ _ _ c.loop-b-test.true
    ∙ c.loop-b.invariant)

pub returns : goal.returns
returns c =
    let all : c.loop-b.b-index ≡ length c.args.s.now = omega arith in
    sym (ends (Some c.loop-b.scan) c.args.s.now) ∙ ap (λ i. scan_of (Some c.loop-b.scan) (drop i c.args.s.now)) (sym all) ∙ c.loop-b.invariant
