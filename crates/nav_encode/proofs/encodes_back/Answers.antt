-- `encodes_back`: the theorem is that of Claims. Assumes nothing.
use Rattle.nav_encode.proofs.Claims.{encodes}
use Rattle.nav_encode.proofs.encodes_back.Goals as goal

pub returns : goal.returns
returns c = encodes
