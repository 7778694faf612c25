use Rattle.std.proofs.Common.{◌≡◌, drop, Some}
use Rattle.utf8.specs.Rules.{scan_of, is_utf8}
use Rattle.utf8.proofs.scanned.Given as goal

abbrev pub invariant-loop-b : goal.invariant-loop-b
invariant-loop-b l = scan_of (Some l.scan) (drop l.b-index l.s) ≡ is_utf8 l.s
