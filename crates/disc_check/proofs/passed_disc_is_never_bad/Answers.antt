use Rattle.disc_check.proofs.Safe.{never_bad}
use Rattle.disc_check.proofs.passed_disc_is_never_bad.Goals as goal

pub returns : goal.returns
returns c = never_bad
