-- `refused_if_none`: the theorem is that of Claims. Assumes nothing.
use Rattle.nav_encode.proofs.Claims.{refused}
use Rattle.nav_encode.proofs.refused_if_none.Goals as goal

pub returns : goal.returns
returns c = refused
