use Rattle.disc_check.proofs.Exact.{exact}
use Rattle.disc_check.proofs.check_is_exact.Goals as goal

pub returns : goal.returns
returns c = exact
