-- `ignored_bits`: the theorem is that of Claims. Assumes nothing.
use Rattle.nav_encode.proofs.Claims.{ignored}
use Rattle.nav_encode.proofs.ignored_bits.Goals as goal

pub returns : goal.returns
returns c = ignored
